pub mod Cuts
pub mod KeptDesks
pub mod OpenKept
pub mod Opening
pub mod Scripted
pub mod Told
