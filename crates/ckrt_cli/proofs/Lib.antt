mod BeforeLemmas
mod SupplyLemmas
mod LongLemmas
mod HoldLemmas
mod RunLemmas
pub mod DriveRunLemmas
pub mod LengthLemmas
pub mod SoundLemmas
pub mod ServedLemmas
mod AppendLemmas
mod InputLemmas
pub mod JoinedLemmas
mod KeepLemmas
mod OpenedLemmas
mod HistoryRunLemmas
mod HistoryManyLemmas
