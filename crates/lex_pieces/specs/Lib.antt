-- The lexical grammar: ECMA-262, clause 12 and annex B.1. A text is a list of characters, a character its code.
pub mod Characters
pub mod Bytes
pub mod Runs
pub mod Classes
pub mod Comments
pub mod Places
pub mod Trivia
pub mod ReadingTrivia
pub mod Notes
pub mod Punctuators
pub mod Escapes
pub mod Names
pub mod NamesRead
pub mod RegExps
pub mod Words
