pub mod MessageLaws
pub mod PlanLaws
pub mod RunLaws
