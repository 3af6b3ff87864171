mod Handed
mod ItemGuards
