pub mod Fields
pub mod Table
pub mod Coding
pub mod Laws
pub mod Giving
pub mod Faulty
pub mod Parts
