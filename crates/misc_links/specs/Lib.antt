pub mod Keeping
pub mod Kinds
pub mod Linked
pub mod Received
pub mod Receiving
