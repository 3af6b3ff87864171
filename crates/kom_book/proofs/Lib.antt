pub mod ActsMade
pub mod Booking
pub mod Flushing
pub mod Kept
pub mod Openings
pub mod StoreSteps
