-- What the rules of objects share.
pub mod Lists
pub mod Props
