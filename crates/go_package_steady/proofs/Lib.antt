mod Inner
mod Rising
mod Within
mod Begun
mod Declared
mod Packages
mod Lying
mod Told
