pub mod Finding
pub mod OneList
pub mod Replaced
pub mod Rising
pub mod Updates
