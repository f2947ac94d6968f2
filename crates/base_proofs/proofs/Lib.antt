-- Lemmas that speak of nothing of ours.
pub mod Bools
pub mod Lists
