pub mod Same
pub mod Answers
pub mod Brought
pub mod Leaks
