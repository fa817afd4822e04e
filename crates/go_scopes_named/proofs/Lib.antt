mod ByName
mod Changing
mod Cut
