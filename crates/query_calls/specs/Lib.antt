pub mod Hidden
pub mod Nearest
pub mod Shown
pub mod Walks
