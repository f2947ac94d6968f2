-- Parts of the rules of statements.
pub mod Parts
