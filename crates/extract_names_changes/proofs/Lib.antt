mod Numbers
mod Sound
mod Imported
mod Bodied
