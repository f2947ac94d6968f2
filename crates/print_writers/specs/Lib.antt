pub mod Lines
pub mod Pages
pub mod States
pub mod Views
pub mod Omitting
