pub mod CubeLists
pub mod JoinedLaws
