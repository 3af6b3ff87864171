pub mod Vanishing
pub mod Hidden
pub mod Quiet
pub mod Calls
pub mod Entries
