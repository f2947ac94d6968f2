pub mod Shapes
pub mod Latin
pub mod Layouts
pub mod Hashbangs
pub mod Written
pub mod Whole
pub mod Marked
pub mod Passed
mod FactsNames
