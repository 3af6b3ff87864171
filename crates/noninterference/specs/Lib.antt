pub mod outputs
pub mod steps
pub mod respect
pub mod Hiding
pub mod Worlds
pub mod Mail
