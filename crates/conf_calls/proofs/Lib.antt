mod Leaving
mod Pushed
