-- One token at the front of a text, of any kind: ECMA-262, clause 12. A text is a list of characters, a character its code.
pub mod Lexemes
pub mod Marks
pub mod Sorts
pub mod Readings
