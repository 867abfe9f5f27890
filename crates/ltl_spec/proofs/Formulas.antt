-- Formulas, their texts and the faults of texts.
pub mod NameLaws
pub mod ByteLaws
pub mod GrammarMachine
pub mod BeginningLaws
pub mod FaultLaws
pub mod TokenLaws
pub mod CanonicalLaws
pub mod ReaderLaws
