mod Framed
mod Reading
mod Functions
