pub mod Words
pub mod Streams
pub mod Links
pub mod Hearings
pub mod Steps
pub mod Turns
pub mod Talks
