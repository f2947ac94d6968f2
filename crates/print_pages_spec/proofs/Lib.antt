pub mod Resolving
pub mod Depths
pub mod Utf8
pub mod Unmarked
