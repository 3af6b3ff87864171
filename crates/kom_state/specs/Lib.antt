pub mod Secrecy
pub mod Keeping
pub mod Placed
pub mod Room
pub mod Keepers
pub mod Counts
