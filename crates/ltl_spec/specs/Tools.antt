-- The three programs: limits, refusals, answers.
pub mod Limits
pub mod Refusal
pub mod Stage
pub mod Outcome
pub mod Readings
pub mod Programs
pub mod Run
pub mod Comparison
pub mod Comparer
