pub mod ComparisonLaws
pub mod MessageLaws
pub mod ProgramLaws
pub mod RunLaws
