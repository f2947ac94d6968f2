pub mod DigitLemmas
pub mod DigitSums
pub mod NumberLemmas
pub mod TextLemmas
pub mod FormLemmas
