pub mod Messages
pub mod Openings
pub mod Plans
pub mod Runs
