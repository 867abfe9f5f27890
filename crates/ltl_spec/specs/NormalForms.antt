-- Negation normal form, its rewriting and its rows.
pub mod Normal
pub mod NormalForm
pub mod RowsCollected
pub mod SharedNodes
pub mod BothPolarities
pub mod SharedRewriting
