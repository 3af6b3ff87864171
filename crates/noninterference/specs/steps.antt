pub mod Steps
pub mod Same
pub mod Calls
pub mod Acts
