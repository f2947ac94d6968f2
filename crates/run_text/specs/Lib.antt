pub mod Lines
pub mod Blocks
pub mod Rows
pub mod Comments
