pub mod LineLemmas
pub mod BlockLemmas
