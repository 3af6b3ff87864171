pub mod Pushing
pub mod Brought
pub mod Passing
pub mod Items
