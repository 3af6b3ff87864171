mod Waiting
mod Handing
mod Replying
mod Leading
mod Going
