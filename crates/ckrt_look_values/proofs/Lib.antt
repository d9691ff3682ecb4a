pub mod CheckLemmas
pub mod FoundLemmas
pub mod FreshLemmas
pub mod ListLemmas
