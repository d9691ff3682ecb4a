pub mod BehindLemmas
pub mod WalkLemmas
pub mod NumberLemmas
pub mod RiseLemmas
pub mod CycleLemmas
