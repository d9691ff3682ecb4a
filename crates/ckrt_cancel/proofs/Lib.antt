pub mod Changed
pub mod Ways
pub mod Kept
pub mod ThreadsKept
pub mod KeysKept
