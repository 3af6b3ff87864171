pub mod Conversations
pub mod Going
