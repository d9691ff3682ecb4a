pub mod DrawLemmas
pub mod EventLemmas
pub mod PieceLemmas
pub mod ShareLemmas
pub mod StillLemmas
pub mod TrackLemmas
pub mod WalkLemmas
