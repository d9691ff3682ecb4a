pub mod Histories
pub mod Detection
pub mod Parts
pub mod Within
pub mod LockOrders
pub mod Cycles
pub mod LockHistories
pub mod Laws
