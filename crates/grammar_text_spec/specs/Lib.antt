-- When a tree and a program spell a text: tokens that tile it, a derivation over them, no early error, no nesting past the limit. Then which of
-- script and module a text is read as, and the early errors of an item that is read alone.
pub use Rattle.tree_program_spec.specs.Program
pub use Rattle.tree_nesting.specs.Nesting
pub mod Tiled
pub mod Text
pub mod Choice
pub mod Items
