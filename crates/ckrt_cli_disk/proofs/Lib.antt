mod CoreLemmas
mod DriveLemmas
pub mod FrontLemmas
mod KeepingLemmas
mod MakingLemmas
mod MissingLemmas
mod PrintLemmas
mod RunLemmas
mod NearLemmas
