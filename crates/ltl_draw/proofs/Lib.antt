pub mod MessageLaws
pub mod NamedLaws
pub mod PictureLaws
pub mod PlanLaws
pub mod RunLaws
pub mod TimelineLaws
