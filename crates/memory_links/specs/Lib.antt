pub mod Script
pub mod PlannedItems
pub mod Standing
pub mod Memories
pub mod Files
