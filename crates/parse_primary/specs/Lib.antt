-- The branches of what starts an expression, named.
pub mod Words
