pub mod Marked
pub mod Outputs
pub mod Growing
pub mod Omits
