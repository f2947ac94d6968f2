pub mod Emits
pub mod Settings
pub mod Codes
pub mod Items
