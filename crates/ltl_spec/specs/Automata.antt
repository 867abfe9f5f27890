-- Automata, their texts, and the listing of states that are reached.
pub mod Automaton
pub mod Listing
pub mod Net
pub mod Generalized
pub mod ClaimText
pub mod HoaText
pub mod GeneralizedText
