pub mod TurnLemmas
pub mod RunLemmas
mod LineLemmas
mod ShortLemmas
pub mod TallyLemmas
mod OneLemmas
pub mod SameLemmas
pub mod KeepLemmas
pub mod AppendLemmas
pub mod CopyLemmas
pub mod LotLemmas
pub mod DiskLemmas
mod NumberLemmas
mod CircleLemmas
pub mod TimeLemmas
mod ShownLemmas
