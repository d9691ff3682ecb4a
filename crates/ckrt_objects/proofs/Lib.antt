pub mod AddressMap
pub mod Appended
pub mod Changes
pub mod Waits
pub mod Obtained
pub mod Granting
pub mod InUse
pub mod Parts
