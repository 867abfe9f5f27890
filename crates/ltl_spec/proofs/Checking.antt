-- The check of an automaton against a formula.
pub mod ProductRuns
pub mod UnifiedLaws
pub mod ProductLaws
pub mod PathLaws
pub mod CheckLaws
pub mod StreamLaws
pub mod VerdictLaws
pub mod BelowLaws
pub mod DocumentLaws
pub mod ContainedLaws
pub mod EntailmentLaws
pub mod GeneralizedRead
