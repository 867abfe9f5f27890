-- Bounds on the number of looks in a search. `old` and `new` are the numbers of looks before and after it.
use Rattle.std.specs.Prelude.{◌≡◌, ℕ, ◌≤◌, ◌^◌, ◌-◌, Bool, true, cond, min, List}
use Rattle.ltl_spec.specs.Semantics.Word.{Name}
use Rattle.ltl_spec.specs.Automata.Automaton.{Automaton}
use Rattle.ltl_spec.specs.Hoa.HoaReading.{MarkedAutomaton}
use Rattle.ltl_spec.specs.Checking.Check.{product_size}
use Rattle.ltl_check.specs.declared.graph.Graph.{Ghosts}
use Rattle.ltl_check.specs.Nets.{Net}
use Rattle.ltl_check.specs.Levels.{net_of}
use Rattle.ltl_check.specs.Explored.{IsGrown, Reached, sum_below}
use Rattle.ltl_check.specs.VerdictView.{IsReachedLevelState, chosen_pairs}

-- the graph by the numbers of its states
abbrev pub graph_net : {T S L : Type 0} → Ghosts T S L → T → Net
graph_net G g = net_of (G.count_of g) (G.start_of g) (G.number_of g) (G.state_of g) (G.pairs_of g) (G.step_of g)

-- at most so many
abbrev pub LooksAtMost : ℕ → ℕ → ℕ → Type 0
LooksAtMost old new most = (c : ℕ) × IsGrown old new c × (c ≤ most)

-- at least one for each pair of edges, or edge, that leaves a state of the choice, whatever reached states are chosen
abbrev pub LooksAtReached : Net → ℕ → ℕ → Type 0
LooksAtReached N old new =
    (c : ℕ) × IsGrown old new c × ((p : ℕ → Bool) → ((n : ℕ) → p n ≡ true → Reached N n) → sum_below (λ n. cond (p n) (N.pairs n) 0) N.count ≤ c)

-- the same for the product of two automata on its levels
module _ (A : MarkedAutomaton) (names : List Name) (B : Automaton) where
  abbrev pub LooksAtCopies : ℕ → ℕ → Type 0
  LooksAtCopies old new =
      (c : ℕ) × IsGrown old new c × ((p : ℕ → Bool) → ((n : ℕ) → p n ≡ true → IsReachedLevelState A names B n) → chosen_pairs A B p (product_size A names B) ≤ c)

  -- so many steps are at least the pairs of edges that leave any choice of reached states, as far as they can be counted
  abbrev pub CoversReached : ℕ → Type 0
  CoversReached steps =
      (chosen : ℕ → Bool) → ((n : ℕ) → chosen n ≡ true → IsReachedLevelState A names B n) → min (chosen_pairs A B chosen (product_size A names B)) (2 ^ 128 - 1) ≤ steps
