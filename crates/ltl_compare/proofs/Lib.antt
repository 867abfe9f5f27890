pub mod AutomatonLaws
pub mod StepLaws
