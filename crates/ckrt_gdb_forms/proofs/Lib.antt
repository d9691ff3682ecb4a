mod AppendLemmas
mod NoteLemmas
mod MemoryLemmas
mod WorkedLemmas
pub mod NumberLemmas
pub mod PartLemmas
pub mod PayloadLemmas
pub mod ReadBackLemmas
