-- What the entries of the parser promise.
pub use Rattle.ecma_lexer.specs.Machine
pub use Rattle.ecma_lexer.specs.Lexer
pub mod Answers
pub mod Entries
pub mod Choice
pub mod Parts
pub mod Programs
pub mod Passed
