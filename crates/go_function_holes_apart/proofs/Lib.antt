mod Windows
mod Functions
