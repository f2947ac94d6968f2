-- What the rules of patterns share.
pub mod Items
