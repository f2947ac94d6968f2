-- Lemmas of the layout that several crates need.
pub mod Parameters
