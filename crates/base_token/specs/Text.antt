pub mod Inline
pub mod AtomForm
