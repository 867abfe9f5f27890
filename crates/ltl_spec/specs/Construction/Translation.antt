-- The Büchi automaton of a formula.
use Rattle.std.specs.Prelude.{◌≡◌, ℕ, Bool, ◌⊎◌}
use Rattle.ltl_spec.specs.NormalForms.Normal.{Normal}
use Rattle.ltl_spec.specs.Automata.Automaton.{Automaton}
use Rattle.ltl_spec.specs.Automata.Generalized.{IsGeneralized, IsTooLarge}
use Rattle.ltl_spec.specs.Construction.Merging.{merged_automaton}
use Rattle.ltl_spec.specs.Construction.Levels.{level_automaton, HasTooManyLevelStates}
use Rattle.ltl_spec.specs.Construction.Renumbered.{renumbered_automaton}

-- implied transitions stay; equal states stay
pub record Options : Type 0 where
  pub keep_implied : Bool
  pub keep_equal : Bool

-- merging, levels, merging, numbering
abbrev pub buchi_automaton : Options → Automaton → Automaton
buchi_automaton o A = renumbered_automaton (merged_automaton o.keep_implied o.keep_equal (level_automaton (merged_automaton o.keep_implied o.keep_equal A)))

-- B is the Büchi automaton of the normal form
abbrev pub IsTranslation : Normal → Options → Automaton → Type 0
IsTranslation F o B = (A : Automaton) × IsGeneralized F o.keep_implied A × (B ≡ buchi_automaton o A)

-- one of the two automata on the way passes the limits
abbrev pub IsTranslationTooLarge : Normal → Options → ℕ → ℕ → Type 0
IsTranslationTooLarge F o most_states most_edges =
    IsTooLarge F o.keep_implied most_states most_edges
    ⊎ ((A : Automaton) × IsGeneralized F o.keep_implied A × HasTooManyLevelStates (merged_automaton o.keep_implied o.keep_equal A) most_states most_edges)
