pub mod Texts
pub mod Code
pub mod Listing
pub mod Metrics
pub mod Worked
pub mod Inspect
