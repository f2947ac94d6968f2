pub mod Fixed
pub mod Onward
pub mod Steps
