pub mod Lines
pub mod Attributes
pub mod Exported
