-- From the generalized automaton to the Büchi automaton: merging, levels, numbering.
pub mod Merging
pub mod ImpliedEdges
pub mod Levels
pub mod Renumbered
pub mod Translation
