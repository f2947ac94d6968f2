pub use Rattle.tree_nodes.specs.Places
pub use Rattle.tree_nodes.specs.Tree
pub mod Edges
