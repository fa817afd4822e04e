mod OneFile
mod Rows
