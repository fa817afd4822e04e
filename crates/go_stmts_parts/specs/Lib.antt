pub mod Passings
pub mod Layouts
pub mod Late
