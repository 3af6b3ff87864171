pub mod Batches
pub mod Gates
pub mod Laws
pub mod Log
pub mod Repair
pub mod Walk
