pub mod SortLemmas
pub mod LexemeLemmas
pub mod SpelledLemmas
