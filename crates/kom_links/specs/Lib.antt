pub mod Outside
pub mod Doors
pub mod Records
pub mod Answers
pub mod DeskCalls
pub mod Streams
pub mod Talk
pub mod WorldCounts
