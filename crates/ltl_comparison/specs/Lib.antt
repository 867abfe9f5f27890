pub mod Comparisons
pub mod Openings
pub mod Refusals
pub mod Runs
