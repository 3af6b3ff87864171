pub mod DenseLists
pub mod Lists
pub mod Slots
