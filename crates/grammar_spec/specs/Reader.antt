-- A reading function on tokens, in the shape in which a parser's code is written: a rule a definition, over a stream of tokens and
-- over the readers of nested parts, which are tied once by depth.
pub mod Source
pub mod Cover
pub mod Expressions
pub mod Statements
pub mod Modules
pub mod Reading
