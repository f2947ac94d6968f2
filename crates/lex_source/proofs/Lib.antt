pub mod ContextLemmas
pub mod AheadLemmas
