pub mod Disk
pub mod Faults
pub mod MemoryDisk
pub mod Moments
pub mod Script
pub mod Shared
pub mod Steps
