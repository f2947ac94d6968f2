pub mod Onto
pub mod Parts
pub mod Writing
