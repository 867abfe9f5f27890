pub mod Faults
pub mod ComparisonView
