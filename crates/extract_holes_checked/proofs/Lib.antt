mod Functions
mod Known
mod Checked
