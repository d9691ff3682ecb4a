pub mod Put
pub mod Writers
pub mod Rows
