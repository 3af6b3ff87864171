pub mod Acts
pub mod Passes
pub mod Desks
pub mod Going
pub mod Turns
pub mod Rows
