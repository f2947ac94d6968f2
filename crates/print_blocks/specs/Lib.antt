pub mod Gather
pub mod Blocks
