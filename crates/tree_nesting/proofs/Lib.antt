mod IfLemmas
mod Levels
