-- The worklist and the interner, as the lists of their keys.
use Rattle.std.specs.Prelude.{ℕ, List}

pub record WorklistView (K : Type 0) : Type 0 where
  pub keys : List K
  pub explored : ℕ

-- Different things in the order in which they came.
pub record InternerView (K : Type 0) : Type 0 where
  pub keys : List K
