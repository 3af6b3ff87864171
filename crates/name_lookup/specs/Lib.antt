pub mod NamedRows
pub mod Letters
pub mod Order
pub mod Blocks
pub mod Changes
pub mod Steps
pub mod Walks
