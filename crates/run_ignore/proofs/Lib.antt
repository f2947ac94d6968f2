pub mod Deciding
pub mod RowLemmas
pub mod ReadLemmas
pub mod RuleLemmas
pub mod KeptLemmas
pub mod LineLemmas
