pub mod Gaps
pub mod Kept
pub mod Reading
pub mod Inserting
pub mod Addresses
pub mod Placing
pub mod Notes
