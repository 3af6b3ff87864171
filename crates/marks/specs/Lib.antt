pub mod Keeping
pub mod Marked
