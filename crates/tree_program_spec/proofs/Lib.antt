pub mod EqualLemmas
pub mod SameLemmas
