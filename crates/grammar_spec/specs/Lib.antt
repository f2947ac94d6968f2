pub use Rattle.tree_spec.specs.Tree
pub mod Reader
pub mod Judge
pub mod Tokens
-- The grammar (ECMA-262, clauses 13 to 16): a production for each node, in the order of the clauses.
pub mod Children
pub mod Expressions
pub mod Patterns
pub mod Functions
pub mod Statements
pub mod Modules
pub mod Grammar
