-- Runs of a lexer, how their tokens lie in the text, and what a run is in the canonical text.
pub mod StepLists
pub mod Room
pub mod Tilings
pub mod Spans
pub mod Turns
pub mod TilingLaws
pub mod CanonicalLaws
