pub mod Spines
pub mod Sorted
