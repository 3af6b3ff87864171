pub mod Numbers
pub mod Secret
