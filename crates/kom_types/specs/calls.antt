-- the calls: their numbers, how their arguments are read, and their patterns by topic
pub mod Numbers
pub mod Arguments
pub mod Pattern
pub mod Sessions
pub mod Server
pub mod Persons
pub mod Conferences
pub mod Texts
pub mod Memberships
pub mod AuxItems
