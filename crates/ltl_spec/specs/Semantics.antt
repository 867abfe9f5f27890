-- When a formula holds, which words an automaton accepts.
pub mod Word
pub mod Satisfaction
pub mod NormalSatisfaction
pub mod Language
