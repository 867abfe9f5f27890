-- Worked examples: whole texts and answers by computation.
pub mod Claims
pub mod ClaimTables
pub mod Texts
pub mod MarkExamples
pub mod ReaderTexts
pub mod PruningExamples
pub mod FactorExamples
pub mod WithinLimits
pub mod CheckTexts
pub mod CheckExamples
pub mod InputTexts
pub mod GeneralizedTexts
pub mod LimitTexts
pub mod ProgramTexts
