pub mod Below
pub mod Pairs
pub mod Parts
pub mod Shown
