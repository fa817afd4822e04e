mod Within
mod Declared
mod Free
