pub mod Calendar
mod Comparing
mod Equality
