pub mod Finding
pub mod OneList
pub mod Receiving
pub mod Rising
pub mod Rooms
pub mod Touching
pub mod Updates
