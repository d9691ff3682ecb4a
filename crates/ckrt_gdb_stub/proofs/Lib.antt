pub mod NumberLemmas
pub mod SessionLemmas
pub mod ConversationLemmas
