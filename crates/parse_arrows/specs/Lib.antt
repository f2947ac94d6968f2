-- What the rules of arrows and parentheses share.
pub mod Groups
pub mod Asyncs
