-- Places, levels of operators, what goes on, and what the grammar asks of a tree before its tokens (ECMA-262, clauses 12 to 16).
pub mod Input
pub mod Operators
pub mod Shape
