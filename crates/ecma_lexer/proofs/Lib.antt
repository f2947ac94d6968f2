pub mod StepLemmas
pub mod MachineLemmas
pub mod KeptLemmas
pub mod QuickLemmas
pub mod LookLemmas
