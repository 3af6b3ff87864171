pub mod Choosing
pub mod Keeping
pub mod Reading
pub mod Steps
