pub mod Keeping
pub mod Rows
pub mod Orderly
pub mod Firm
pub mod Sending
pub mod Making
pub mod Worlds
