-- What rules of the parser make, and what lists with commas share.
pub mod Operands
pub mod Rules
pub mod Lists
pub mod Elements
