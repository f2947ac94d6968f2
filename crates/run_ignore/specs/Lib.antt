pub mod Classes
pub mod Matching
pub mod Rows
pub mod Reading
pub mod Rules
pub mod Lines
