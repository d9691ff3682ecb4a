pub mod RwLock
pub mod Rows
pub mod WellFormed
pub mod Named
