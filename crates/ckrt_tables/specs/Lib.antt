pub mod Records
pub mod Encoding
pub mod Savable
pub mod Fresh
pub mod Writing
pub mod Decoding
pub mod Objects
pub mod DecodingThreads
