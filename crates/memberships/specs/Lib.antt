pub mod Entries
pub mod Keeping
pub mod Order
pub mod Secrets
pub mod Table
pub mod Placing
