pub mod AddressMap
pub mod Appended
pub mod Granting
pub mod InUse
pub mod Places
