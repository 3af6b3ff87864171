pub mod Acts
pub mod Deciding
pub mod Keeping
pub mod Steps
pub mod Worlds
