pub mod Yields
pub mod Levels
pub mod Trees
pub mod Cuts
