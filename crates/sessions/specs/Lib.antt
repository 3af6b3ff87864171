pub mod Accepting
pub mod Outboxes
pub mod Rows
