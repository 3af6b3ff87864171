mod Authors
mod Heads
mod Pushing
mod Recipients
