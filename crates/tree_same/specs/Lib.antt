pub mod Sorts
pub mod Compared
pub mod Seen
