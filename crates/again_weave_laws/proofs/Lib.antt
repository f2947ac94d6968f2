pub mod Cells
pub mod Telling
pub mod Weaving
pub mod Back
