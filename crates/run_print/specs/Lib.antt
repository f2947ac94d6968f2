-- What is written of a tree, and what printing it does: read these in order.
pub use Rattle.print_layout_spec.specs.Looks
pub use Rattle.print_layout_spec.specs.Layout
pub mod Layouts
pub mod Prints
-- What its steps do. No public clause of other crates cites these.
pub mod Steps
