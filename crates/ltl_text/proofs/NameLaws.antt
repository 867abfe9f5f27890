-- The edges of an automaton have names.
use Rattle.std.proofs.Common.{◌≡◌, subst, ℕ, List, slice_index_or, slice_get, Some}
use Rattle.ltl_spec.specs.Collections.Sets.{Has}
use Rattle.ltl_spec.specs.Automata.Automaton as spec
use Rattle.ltl_spec.specs.Checking.Bounds.{HasNamesBelow}
use Rattle.ltl_spec.proofs.Collections.FoundLaws.{index_there}
use Rattle.ltl_spec.proofs.Collections.ListLaws.{Has-at}
use Rattle.ltl_text.specs.Names.{AllHaveNames, HasNames}

pub all_have_names : (n : ℕ) (B : spec.Automaton) (k : ℕ) (es : List spec.Edge) → HasNamesBelow n B → es ≡ (spec.state_at B k).edges → AllHaveNames n es
all_have_names n B k es h e = record {
  named = λ i d below. h k (slice_index_or es i d) (subst (λ xs. Has xs (slice_index_or es i d)) e (Has-at es i d below));
}

-- the edge that was found
pub name_there : (n : ℕ) (es : List spec.Edge) (k : ℕ) (e : spec.Edge) → AllHaveNames n es → slice_get es k ≡ Some e → HasNames n e.cube
name_there n es k e a h = let w = index_there es k e e h in subst (λ (x : spec.Edge). HasNames n x.cube) w.1 (a.named k e w.0)
