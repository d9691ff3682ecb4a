pub mod Commands
pub mod Conversation
pub mod Monitor
pub mod Session
