-- Where a parser stands in a source of tokens, and what its functions answer.
pub use Rattle.lex_source.specs.Machine
pub mod Cursors
pub mod Answers
pub mod Codes
pub mod States
pub mod Reads
