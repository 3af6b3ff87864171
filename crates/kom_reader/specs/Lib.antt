pub mod Words
pub mod Commands
pub mod Links
pub mod Reading
pub mod Steps
pub mod Hearing
