-- The canonical text of tokens.
pub mod Canonical
pub mod Edges
pub mod Moved
pub mod Laws
