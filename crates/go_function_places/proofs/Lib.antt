mod Derived
mod Good
mod Typings
mod Readings
mod Functions
mod Files
mod Places
