mod Frames
mod Examples
