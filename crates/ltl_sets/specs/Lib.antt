pub mod CubeEq
pub mod Inverses
pub mod Literals
pub mod PlaceLaws
pub mod SubsetLaws
pub mod Transposed
pub mod WordLaws
pub mod Words
