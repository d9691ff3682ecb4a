pub mod Waits
pub mod Released
pub mod Rows
pub mod Woken
pub mod ThreadsKept
pub mod Kept
pub mod Elsewhere
pub mod Test
