pub mod EdgeLaws
pub mod NetLaws
pub mod ReachableLaws
pub mod SharedLaws
pub mod WayLaws
pub mod SortingLaws
pub mod TableLaws
pub mod RelabelLaws
