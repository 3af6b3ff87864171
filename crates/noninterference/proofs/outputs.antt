pub mod Rows
pub mod Masked
pub mod Passing
pub mod Alike
pub mod Numbered
pub mod calls
pub mod Answering
pub mod Brought
