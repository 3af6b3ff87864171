pub mod Added
pub mod Delivered
pub mod Silent
