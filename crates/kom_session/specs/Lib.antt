pub mod Course
pub mod Ends
pub mod Kept
pub mod Known
pub mod Left
pub mod Serving
pub mod Waits
