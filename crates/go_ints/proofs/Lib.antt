pub mod Wrapped
pub mod Words
pub mod KindLaws
pub mod BitLaws
pub mod Public
