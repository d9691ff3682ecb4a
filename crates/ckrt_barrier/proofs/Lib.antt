pub mod Table
pub mod WellFormed
pub mod Kept
pub mod ThreadsKept
pub mod Test
