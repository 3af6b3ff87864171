pub mod Statuses
pub mod Stops
pub mod Sweeps
pub mod Comes
