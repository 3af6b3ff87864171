mod Ending
mod Messages
mod Sent
