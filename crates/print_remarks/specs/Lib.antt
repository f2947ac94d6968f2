-- The comments of a gap: read these in order.
pub mod Found
pub mod Views
