pub mod Numbers
pub mod Mappings
pub mod Writing
pub mod Orders
