-- The tie of the rules.
pub use Rattle.parse_patterns.specs.Items
pub mod Nests
