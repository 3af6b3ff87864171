mod Gathering
mod Readings
mod Tables
