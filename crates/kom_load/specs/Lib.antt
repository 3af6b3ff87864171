pub mod Generator
pub mod Runs
pub mod Summaries
pub mod LoadRows
pub mod Loading
pub mod Steps
