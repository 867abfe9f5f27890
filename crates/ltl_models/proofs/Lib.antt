pub mod PlacedLaws
pub mod SortLaws
pub mod Within
