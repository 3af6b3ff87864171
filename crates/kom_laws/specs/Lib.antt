pub mod masking
pub mod Groups
pub mod Erasing
pub mod Laws
pub mod Fitting
pub mod Refusing
