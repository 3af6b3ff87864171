mod HiddenRows
mod AlongNumbers
mod Bits
mod Memberships
mod NextShown
mod Shown
mod ShownToFew
mod ToldCounts
