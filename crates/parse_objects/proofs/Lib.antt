pub mod Keyed
pub mod Rests
