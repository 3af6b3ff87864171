pub mod Going
pub mod Found
pub mod Members
pub mod Whole
pub mod Ranks
pub mod PersonParts
