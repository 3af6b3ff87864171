pub mod Scanning
pub mod Standings
pub mod Refusals
pub mod Inheritance
pub mod Rooms
pub mod Finding
pub mod Updates
