pub mod Nesting
pub mod Levels
pub mod Table
