pub mod Seats
pub mod Going
pub mod Passing
pub mod Crowds
pub mod Hub
