pub mod Created
pub mod Filters
pub mod Forgetting
pub mod Keeping
pub mod Locals
pub mod Rising
pub mod Rooms
