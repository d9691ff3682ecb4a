pub mod Granting
pub mod Rows
pub mod Table
pub mod Kept
pub mod WellFormed
pub mod ThreadsKept
pub mod Appended
pub mod Test
