mod PageLemmas
mod PendingLemmas
mod SubmitLemmas
pub mod SessionLemmas
pub mod CommitLemmas
mod OpeningLemmas
mod CheckpointLemmas
pub mod RoomLemmas
pub mod ReachedLemmas
pub mod SpareLemmas
pub mod AcceptLemmas
pub mod AnswerLemmas
