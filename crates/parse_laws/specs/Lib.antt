-- What a parser reads of a source of tokens, of a list of them, and of a text, and what it answers, by the grammar.
pub use Rattle.grammar_text_spec.specs.Text
pub use Rattle.lex_step_laws.specs.Bounds
pub mod Parsed
pub mod Exact
pub mod Settled
pub mod Judged
pub mod TextRead
pub mod ListRead
pub mod Answered
pub mod Texts
pub mod Lists
pub mod Chosen
pub mod Parts
