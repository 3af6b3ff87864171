pub mod Coders
pub mod Snapshots
