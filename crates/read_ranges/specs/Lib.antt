pub mod Changed
pub mod Kept
pub mod ListFault
pub mod Merged
pub mod Numbers
pub mod Places
pub mod Reads
