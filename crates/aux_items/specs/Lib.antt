pub mod Checking
pub mod Items
pub mod Keeping
pub mod Kinds
pub mod Objects
