mod Paths
mod Sites
mod Extracted
