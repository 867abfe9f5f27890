-- On a lasso it is decided whether a formula in normal form holds, and its generalized automaton has a run exactly where it does.
use Rattle.std.proofs.Common.{◌≡◌, ℕ, ◌<◌, Bool, true, false, List, length, ◌↔◌}
use Rattle.ltl_spec.specs.Semantics.Word.{Name, Lasso, next, is_true_at}
use Rattle.ltl_spec.specs.Semantics.Satisfaction.{HoldsUntil}
use Rattle.ltl_spec.specs.NormalForms.Normal.{Normal, Top, Bottom, Leaf, Next, And, Or, Until, Release}
use Rattle.ltl_spec.specs.Semantics.NormalSatisfaction.{Holds}
use Rattle.ltl_spec.specs.Automata.Automaton.{Automaton}
use Rattle.ltl_spec.specs.Automata.Generalized.{IsGeneralized}
use Rattle.ltl_spec.proofs.Semantics.Runs.{Run}
use Rattle.ltl_spec.proofs.Semantics.UntilLaws.{not_decided, and_decided, or_decided, release_decided}
use Rattle.ltl_spec.proofs.Semantics.LassoLaws.{decide_until}
use Rattle.ltl_spec.proofs.Semantics.GeneralizedLaws.{holds_of_run, run_of_holds}

-- whether two signs agree
same_decided : (a b : Bool) → Dec (a ≡ b)
same_decided true true = yes (λ i. true)
same_decided true false = no (λ e. cc)
same_decided false true = no (λ e. cc)
same_decided false false = yes (λ i. false)

module _ (truth : ℕ → ℕ → Bool) (step : ℕ → ℕ) (until : (a b : ℕ → Type 0) → ((i : ℕ) → Dec (a i)) → ((i : ℕ) → Dec (b i)) → (i : ℕ) → Dec (HoldsUntil step a b i)) where
  -- where `U` is decided it is decided whether a formula in normal form holds
  pub holds_decided : (F : Normal) (i : ℕ) → Dec (Holds truth step F i)
  holds_decided Top i = yes tt
  holds_decided Bottom i = no (λ x. x)
  holds_decided (Leaf l) i = same_decided (truth i l.proposition) l.positive
  holds_decided (Next a) i = holds_decided a (step i)
  holds_decided (And a b) i = and_decided (holds_decided a i) (holds_decided b i)
  holds_decided (Or a b) i = or_decided (holds_decided a i) (holds_decided b i)
  holds_decided (Until a b) i = until (Holds truth step a) (Holds truth step b) (holds_decided a) (holds_decided b) i
  holds_decided (Release a b) i =
      release_decided step (holds_decided a) (holds_decided b) i
      (until (λ j. ¬ (Holds truth step a j)) (λ j. ¬ (Holds truth step b j)) (λ j. not_decided (holds_decided a j)) (λ j. not_decided (holds_decided b j)) i)

module _ (names : List Name) (w : Lasso) (cycles : 0 < length w.cycle) where
  -- the automaton of a formula in normal form
  pub run_iff_holds : (N : Normal) (keep : Bool) (A : Automaton) → IsGeneralized N keep A → Run A (is_true_at names w) (next w) ↔ Holds (is_true_at names w) (next w) N 0
  run_iff_holds N keep A g = (
    holds_of_run N keep A (is_true_at names w) (next w) g,
    run_of_holds N keep A (is_true_at names w) (next w) g (holds_decided (is_true_at names w) (next w) (decide_until w cycles)),
  )
