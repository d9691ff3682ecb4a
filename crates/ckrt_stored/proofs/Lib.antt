pub mod PickLemmas
pub mod ByteLemmas
pub mod WriteLemmas
pub mod SavePointLemmas
pub mod HoldLemmas
pub mod SlotLemmas
pub mod AreaLemmas
pub mod RecoverLemmas
pub mod ReplayLemmas
pub mod GrowthLemmas
pub mod SwitchLemmas
pub mod PastLemmas
pub mod PastFaultLemmas
pub mod PageLemmas
mod SaveLemmas
mod FormatLemmas
mod NoteLemmas
pub mod FieldlessLemmas
pub mod ScheduleLemmas
mod FillLemmas
pub mod EmptyingLemmas
pub mod RowLemmas
pub mod CopyLemmas
