pub mod Takes
pub mod Sections
pub mod Keys
