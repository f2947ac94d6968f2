pub mod WordLemmas
pub mod ReservedLemmas
