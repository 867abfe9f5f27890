pub mod FormsLemmas
pub mod SharedNodesLemmas
pub mod MadeLemmas
pub mod NeedsLemmas
pub mod OrderLemmas
pub mod PlacesLemmas
mod SmallLemmas
pub mod TableLemmas
pub mod WalkLemmas
