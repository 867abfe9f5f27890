-- Negation normal form, its rewriting and its rows.
pub mod NormalLaws
pub mod SharedNodes
pub mod SharedRewriting
pub mod BothPolarities
pub mod RowsCollected
