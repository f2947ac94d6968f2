pub mod Rows
pub mod Commas
pub mod Defaults
pub mod Lasts
pub mod Told
