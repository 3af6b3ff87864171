pub mod Keeping
pub mod Needs
pub mod Stored
