pub mod Represents
pub mod Reached
pub mod Between
pub mod Opening
pub mod View
pub mod Calls
pub mod Recovered
pub mod Accepts
