pub mod AsciiLemmas
pub mod FormLemmas
