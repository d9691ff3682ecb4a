pub mod WordLemmas
pub mod MotionLemmas
mod FirstLemmas
