-- what each call comes to, by topic
pub mod Call
pub mod Guards
pub mod Persons
pub mod Conferences
pub mod Sessions
pub mod Memberships
pub mod Texts
pub mod NewTexts
pub mod Server
pub mod AuxItems
