pub mod Choices
pub mod Heads
pub mod HeadRows
pub mod Laws
pub mod Writing
