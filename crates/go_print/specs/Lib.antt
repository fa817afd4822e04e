pub mod Texts
pub mod Names
pub mod Printed
pub mod Literals
pub mod Examples
