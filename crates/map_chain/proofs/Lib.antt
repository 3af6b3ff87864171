pub mod Below
mod Crosses
mod Filters
mod Growing
mod Indexing
mod Keys
mod Linking
mod Lists
mod Seeking
mod Sharing
mod Steps
mod Thin
mod Walking
