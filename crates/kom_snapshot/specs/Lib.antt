pub mod Snapshot
pub mod Snap
pub mod Listed
pub mod Laws
pub mod SnapRows
