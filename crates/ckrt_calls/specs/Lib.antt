pub mod Beginnings
pub mod Output
pub mod WellFormed
pub mod Calling
pub mod Table
pub mod Refused
