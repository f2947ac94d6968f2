pub mod Sits
pub mod Expressions
pub mod Patterns
pub mod Functions
pub mod Statements
pub mod Modules
pub mod Found
pub mod Ascending
mod Facts
