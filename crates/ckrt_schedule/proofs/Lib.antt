pub mod LotLemmas
mod SearchLemmas
pub mod TurnLemmas
pub mod ClockLemmas
pub mod RunTurnLemmas
pub mod NextLemmas
