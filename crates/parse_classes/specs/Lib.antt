-- What the rules of classes share.
pub mod Members
