-- The lexer as contracts see it.
pub use Rattle.lex_step_laws.specs.States
pub mod Last
pub mod Lexer
pub mod Kept
pub mod Stepping
pub mod Machine
pub mod Quick
pub mod Looks
pub mod Lending
