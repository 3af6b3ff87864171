pub mod Keys
pub mod Replies
pub mod Client
pub mod Rows
pub mod Seen
pub mod Talking
pub mod Talkers
