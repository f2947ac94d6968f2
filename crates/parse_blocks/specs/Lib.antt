-- What the rules of blocks and bodies share, and what declarations of variables do.
pub mod Lists
pub mod Declarators
