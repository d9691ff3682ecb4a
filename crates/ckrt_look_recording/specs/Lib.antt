pub mod Frames
pub mod Names
pub mod Accesses
pub mod Quiet
pub mod Recording
pub mod Reading
