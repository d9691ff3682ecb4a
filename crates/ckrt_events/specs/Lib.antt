pub mod Bytes
pub mod Words
pub mod Line
pub mod Refusals
