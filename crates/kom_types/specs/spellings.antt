-- how values, replies and messages are spelled, by topic
pub mod Words
pub mod AuxItems
pub mod Conferences
pub mod Persons
pub mod Texts
pub mod Memberships
pub mod Sessions
pub mod Server
pub mod Replies
pub mod Messages
