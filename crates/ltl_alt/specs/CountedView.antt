-- The until rows that count while pairs are pruned, by what the steps of each row depend on.
use Rattle.std.specs.Prelude.{◌≡◌, ℕ, ◌<◌, false, ◌⊎◌, if◌then◌else◌, List, [], ◌∷◌, length, slice_index_or}
use Rattle.ltl_spec.specs.Collections.Sets.{Has}
use Rattle.ltl_spec.specs.NormalForms.Normal.{Normal, Next, Until}
use Rattle.ltl_spec.specs.Transitions.Pairs as spec
use Rattle.ltl_spec.specs.Transitions.RowTransitions.{Table, place}
use Rattle.ltl_spec.proofs.Transitions.IndependenceTests.{Support, no_support, support_of, together, shares_some, Covers}
use Rattle.ltl_formula.specs.TableView.{TableView, row_tree}
use Rattle.ltl_formula.specs.declared.row.Row.{Row}
use Rattle.ltl_formula.specs.declared.row.Row.TheVariants as row
use Rattle.ltl_alt.specs.Steps.{steps_at}
use Rattle.ltl_alt.specs.SupportView.{CoversAllFulfilling}
use Rattle.ltl_alt.specs.TransitionView.{table_at}
use Rattle.ltl_alt.specs.declared.program.RowSteps.{RowSteps}

-- what the step with this number depends on
abbrev pub support_at : List Support → ℕ → Support
support_at ls k = slice_index_or ls k no_support

-- the support of the pairs that postpone an until row with a place, by that of its left operand's pairs
abbrev pub postponing_support : Support → ℕ → Support
postponing_support left at = together left (support_of (spec.later_pair at))

-- the places that count because of a row, by what is needed; `at` is the place of an until row
abbrev pub places_added : List Support → List RowSteps → Support → Row → ℕ → spec.RowSet
places_added ls rs needed (row.Next i) at = (support_at ls (steps_at rs i).sets).targets
places_added ls rs needed (row.Until i j) at = if shares_some needed (postponing_support (support_at ls (steps_at rs i).pairs) at) then at ∷ [] else []
places_added ls rs needed _ at = []

-- all that an X needs is among the places. The place of an until formula is there, or the pairs that postpone it share nothing with what is needed
abbrev pub IsClosed : Table → spec.RowSet → Support → Normal → Type 0
IsClosed T places needed (Next a) = (e : spec.RowSet) → Has (spec.conj (place T) a) e → (k : ℕ) → Has e k → Has places k
IsClosed T places needed (Until a b) = Has places (place T (Until a b))
    ⊎ ((v : Support) × Covers v (spec.join (spec.pairs (place T) a) (spec.later_pair (place T (Until a b)) ∷ [])) × (shares_some needed v ≡ false))
IsClosed T places needed _ = Unit {0}

-- so it is in the first n rows
abbrev pub AreClosed : TableView → spec.RowSet → Support → ℕ → Type 0
AreClosed t places needed n = (k : ℕ) → k < n → IsClosed (table_at t) places needed (row_tree t k)

-- `next` has the counted places, and all places that count because of them
pub record IsRound (t : TableView) (counted next : spec.RowSet) : Type 0 where
  pub more : (k : ℕ) → Has counted k → Has next k
  pub needed : Support
  pub covers : CoversAllFulfilling (table_at t) counted (length (table_at t).untils) needed
  pub closed : AreClosed t next needed (length t.rows)
