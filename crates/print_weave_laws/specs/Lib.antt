-- What stands between the tokens of a text, and where comments may.
pub mod Gaps
pub mod Cells
pub mod Addresses
pub mod Placing
pub mod Notes
pub mod Laws
