-- Sources of tokens besides the lexer.
pub mod Lists
pub mod Captures
pub mod Lending
pub mod Steps
pub mod Rewinding
