-- what the stored rows become, by topic
pub mod Conferences
pub mod Persons
pub mod Memberships
pub mod Texts
pub mod AuxItems
