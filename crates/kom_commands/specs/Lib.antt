pub mod Words
pub mod Statuses
pub mod Reports
pub mod Numbers
pub mod Loads
pub mod Sweeps
