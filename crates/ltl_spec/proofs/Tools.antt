-- The three programs: what their answers mean.
pub mod StepLaws
pub mod ModelLaws
pub mod TruthLaws
pub mod WordNames
pub mod VerdictLaws
pub mod CauseLaws
pub mod RunLaws
