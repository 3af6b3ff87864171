pub mod Rows
pub mod Chosen
pub mod Places
pub mod Listing
