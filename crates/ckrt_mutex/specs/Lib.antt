pub mod Mutex
pub mod Rows
pub mod WellFormed
pub mod Named
