pub mod SimulationLaws
pub mod CheckLaws
pub mod BuildLaws
pub mod ReductionLaws
pub mod ImportLaws
pub mod MarkedLaws
pub mod BuchiLaws
pub mod StateBasedLaws
