pub mod Bits
pub mod Values
pub mod Instructions
pub mod Checks
pub mod Texts
pub mod Again
pub mod Recorded
