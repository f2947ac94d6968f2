pub mod Kin
mod Like
pub mod Forms
mod Expressions
pub mod Functions
pub mod Statements
mod Modules
pub mod Placed
pub mod PlacedLemmas
pub mod Passed
