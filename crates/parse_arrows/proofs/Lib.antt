pub mod GroupLemmas
pub mod AsyncLemmas
pub mod Plain
