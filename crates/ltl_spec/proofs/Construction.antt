-- From the generalized automaton to the Büchi automaton: merging, levels, numbering.
pub mod RoundLaws
pub mod LevelLaws
pub mod ClimbLaws
pub mod LevelRuns
pub mod RenumberedRuns
pub mod RenumberedLaws
pub mod EdgeBounds
pub mod GeneralizedBounds
pub mod ImpliedEdges
pub mod SetEdges
pub mod QuotientRuns
pub mod MergingRuns
pub mod NamingLaws
