-- What the rules of `for` share.
pub mod Heads
pub mod Fors
