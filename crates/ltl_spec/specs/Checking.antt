-- The check of an automaton against a formula.
pub mod Product
pub mod Search
pub mod Searched
pub mod Bounds
pub mod Check
pub mod Comparison
