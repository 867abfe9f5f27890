pub mod BlockLaws
pub mod ColumnLaws
pub mod HasLaws
pub mod LookupLaws
pub mod PartLaws
pub mod SearchLaws
