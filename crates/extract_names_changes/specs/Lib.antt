pub mod Extracted
