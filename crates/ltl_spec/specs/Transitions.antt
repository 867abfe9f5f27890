-- What has to be true now and what has to hold next.
pub mod Cubes
pub mod Pairs
pub mod RowTransitions
pub mod Pruning
pub mod CountedUntils
