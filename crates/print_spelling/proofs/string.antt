pub mod CodePointLemmas
pub mod NameLemmas
pub mod NameRuns
pub mod QuotedLemmas
pub mod RawLemmas
pub mod StringLemmas
