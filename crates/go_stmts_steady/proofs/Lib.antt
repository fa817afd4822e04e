mod Local
mod Swapping
mod Fixed
mod Steadying
mod Asked
