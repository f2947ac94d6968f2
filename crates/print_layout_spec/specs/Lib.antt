pub mod Looks
pub mod Words
pub mod Literals
pub mod Layout
