pub mod Showing
pub mod Owning
