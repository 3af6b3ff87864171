pub mod Fronts
pub mod Screens
