pub mod Images
pub mod Moments
pub mod FrameLemmas
mod Walks
pub mod ListLemmas
pub mod WriteLemmas
