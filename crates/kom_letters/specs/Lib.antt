pub mod Kinds
pub mod Charsets
pub mod Spacing
pub mod Lines
pub mod Showing
pub mod Names
pub mod Typing
