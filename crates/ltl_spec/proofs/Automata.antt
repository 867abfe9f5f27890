-- Automata, their texts, and the listing of states that are reached.
pub mod ListingLaws
pub mod ListingReach
pub mod NetLaws
pub mod ListedStates
pub mod CountsLaws
