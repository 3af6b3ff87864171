pub mod Counting
pub mod Rising
pub mod Places
pub mod Keeping
pub mod replay
pub mod Raises
