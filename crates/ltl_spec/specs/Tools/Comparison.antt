-- What the comparison of two formulas answers: the first refusal in the stated order, or the words that tell them apart.
use Rattle.std.specs.Prelude.{◌≡◌, ℕ, ◌*◌, ◌<◌, ◌≤◌, Bool, true, false, length, Option, Result, Ok, MatchResult}
use Rattle.ltl_spec.specs.Semantics.Word.{Lasso}
use Rattle.ltl_spec.specs.Formulas.Formula.{Reading}
use Rattle.ltl_spec.specs.Formulas.Names.{unified}
use Rattle.ltl_spec.specs.NormalForms.NormalForm.{core}
use Rattle.ltl_spec.specs.Automata.Automaton.{Automaton}
use Rattle.ltl_spec.specs.Checking.Comparison.{Comparison, IsEntailment}
use Rattle.ltl_spec.specs.Tools.Limits.{Limits}
use Rattle.ltl_spec.specs.Tools.Refusal.{Refusal, TooManyPropositions, LargeProduct}
use Rattle.ltl_spec.specs.Tools.Outcome.{Then}
use Rattle.ltl_spec.specs.Tools.Programs.{KeepsRows, Translates, plain_options}

-- how many states the search for a word of two Büchi automata may meet: the pairs of states, on three levels
abbrev pub joint_size : Automaton → Automaton → ℕ
joint_size B C = length B.states * length C.states * 3

module _ (l : Limits) where
  -- the automaton of a formula, or of its negation; its rows are counted first
  abbrev pub MakesAutomaton : Bool → Reading → Result Automaton Refusal → Type 0
  MakesAutomaton negate R = Then (KeepsRows l (core R.formula negate true)) (λ N. Translates l N plain_options)

  -- the search is refused: the number of all names first, then its size
  abbrev pub RefusesJoint : Reading → Reading → Automaton → Automaton → Refusal → Type 0
  RefusesJoint R S B C TooManyPropositions = l.propositions < length (unified R.names S.names)
  RefusesJoint R S B C LargeProduct = (length (unified R.names S.names) ≤ l.propositions) × (l.product < joint_size B C)
  RefusesJoint R S B C _ = ⊥

  -- the search with the automaton of the first formula and that of the second one's negation
  abbrev pub Separates : Reading → Reading → Automaton → Automaton → Result (Option Lasso) Refusal → Type 0
  Separates R S B C r =
      MatchResult r (λ o. (length (unified R.names S.names) ≤ l.propositions) × (joint_size B C ≤ l.product) × IsEntailment R S o) (RefusesJoint R S B C)

  -- whether the first formula implies the second one. The first one is translated before the negation of the second one
  abbrev pub FindsEntailment : Reading → Reading → Result (Option Lasso) Refusal → Type 0
  FindsEntailment R S =
      Then (MakesAutomaton false R) (λ B.
      Then (MakesAutomaton true S) (λ C. Separates R S B C))

  -- both directions, in this order
  abbrev pub Compares : Reading → Reading → Result Comparison Refusal → Type 0
  Compares R S =
      Then (FindsEntailment R S) (λ first.
      Then (FindsEntailment S R) (λ second r. r ≡ Ok (record { first_only = first; second_only = second })))
