pub mod Checked
pub mod Extracted
