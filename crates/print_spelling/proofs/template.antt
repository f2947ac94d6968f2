pub mod AgainLemmas
pub mod LineLemmas
pub mod PartLemmas
pub mod ReadLemmas
pub mod RegExpLemmas
pub mod SplitLemmas
pub mod TextLemmas
pub mod TwiceLemmas
