-- Sets of rows keyed by the list numbers of their components.
use Rattle.std.specs.Prelude.{◌≡◌, ℕ, ◌<◌, Bool, List, length, map}
use Rattle.std.specs.declared.vec.Vec.{Vec}
use Rattle.ltl_spec.specs.Collections.Sets.{Has}
use Rattle.ltl_spec.specs.Transitions.Pairs.{RowSet}
use Rattle.ltl_spec.specs.Transitions.RowTransitions.{Table, Transition, transitions}
use Rattle.ltl_spec.proofs.Transitions.FactorLaws.{all_products}
use Rattle.ltl_spec.proofs.Transitions.ProductTransitions.{in_order}
use Rattle.ltl_alt.specs.FinalView.{made_of}

-- the transitions of a set of rows are the product of the lists with these numbers
pub record IsKeyOf (T : Table) (keep : Bool) (lists : List (List Transition)) (numbers : List ℕ) (state : RowSet) : Type 0 where
  pub within : (k : ℕ) → Has numbers k → k < length lists
  pub transitions : transitions T keep state ≡ in_order (all_products T (map (made_of lists) numbers))

-- each of these sets has its key
abbrev pub AreKeys : {A : Type 0} → Table → Bool → List (List Transition) → List (Vec ℕ A × RowSet) → Type 0
AreKeys {A} T keep lists states = (key : Vec ℕ A) (state : RowSet) → Has states (key, state) → IsKeyOf T keep lists key.items state

-- both sets of rows have the same transitions
abbrev pub HasSameTransitions : Table → Bool → RowSet → RowSet → Type 0
HasSameTransitions T keep state same_successors_as = transitions T keep same_successors_as ≡ transitions T keep state
