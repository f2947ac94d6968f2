-- Comments between the tokens of a text: read these in order.
pub mod Slots
pub mod Safe
pub mod Spacing
pub mod Woven
pub mod Views
