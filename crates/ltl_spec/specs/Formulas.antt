-- Formulas, their texts and the faults of texts.
pub mod Formula
pub mod Tokens
pub mod Names
pub mod Grammar
pub mod Fault
pub mod Canonical
pub mod GrammarMachine
pub mod Outline
