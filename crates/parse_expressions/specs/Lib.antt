-- What the rules of expressions share, those of literals, of prefixes and of `new` among them.
pub mod News
pub mod Pieces
pub mod Steps
pub mod Words
