pub mod Positions
pub mod Pool
pub mod Engine
pub mod Stops
pub mod Search
pub mod Forks
pub mod Extended
