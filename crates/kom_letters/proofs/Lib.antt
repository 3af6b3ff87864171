pub mod Told
pub mod Steps
pub mod Lays
pub mod Harmless
pub mod Fronts
pub mod Typed
