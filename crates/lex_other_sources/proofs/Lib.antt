pub mod CaptureLemmas
pub mod ListLemmas
pub mod StepLemmas
pub mod LookLemmas
