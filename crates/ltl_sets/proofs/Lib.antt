pub mod CountLaws
pub mod CubeLaws
pub mod CubeOrderLaws
pub mod LaneLaws
pub mod LiteralsLaws
pub mod RowSetLaws
pub mod TransposedLaws
