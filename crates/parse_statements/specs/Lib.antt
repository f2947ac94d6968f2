-- What the rules of statements share.
pub mod Lists
