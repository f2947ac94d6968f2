-- How a text is read, token after token: one step of a lexer, in the terms of ECMA-262, clause 12, and how far its steps go.
pub mod States
pub mod Steps
pub mod Bounds
pub mod Laws
pub mod SteppingLaws
