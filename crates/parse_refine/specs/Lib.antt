-- What refining an expression to a pattern is seen by.
pub mod Items
