-- A comparison of the code as one of the definitions, its refusals, and bounds on the number of looks.
use Rattle.std.specs.Prelude.{◌≡◌, ◌⊎◌, ℕ, ◌+◌, ◌*◌, ◌≤◌, true, false, sum_by, length, Option, Some, None, Result, Ok, Err, MatchResult}
use Rattle.ltl_spec.specs.Semantics.Word.{Lasso}
use Rattle.ltl_spec.specs.Formulas.Formula.{Reading}
use Rattle.ltl_spec.specs.Automata.Automaton.{Automaton}
use Rattle.ltl_spec.specs.Checking.Comparison as spec
use Rattle.ltl_spec.specs.Tools.Limits.{stated_limits}
use Rattle.ltl_spec.specs.Tools.Refusal.{Refusal, TooManyRows, TooManyElementaryRows, LargeAutomaton, TooManyPropositions, LargeProduct, OutOfMemory}
use Rattle.ltl_spec.specs.Tools.Comparison.{MakesAutomaton}
use Rattle.ltl_check.specs.declared.verdict.Outcome.{Outcome}
use Rattle.ltl_check.specs.declared.verdict.Outcome.TheVariants.{Contained, Violated}
use Rattle.ltl_compare.specs.declared.comparison.Comparison.{Comparison}
use Rattle.ltl_compare.specs.declared.fault.CompareFault.{CompareFault}
use Rattle.ltl_compare.specs.declared.fault.CompareFault.TheVariants as fault

-- the two words
abbrev pub comparison_of : {A : Type 0} → Comparison A → spec.Comparison
comparison_of c = record { first_only = c.first_only; second_only = c.second_only }

-- the word of an outcome, if there is one
abbrev pub found_word : {A : Type 0} → Outcome A → Option Lasso
found_word Contained = None
found_word (Violated w) = Some w

abbrev pub refusal_of : CompareFault → Refusal
refusal_of fault.TooManyRows = TooManyRows
refusal_of fault.TooManyElementaryRows = TooManyElementaryRows
refusal_of fault.TooLarge = LargeAutomaton
refusal_of fault.TooManyPropositions = TooManyPropositions
refusal_of fault.ProductTooLarge = LargeProduct
refusal_of fault.OutOfMemory = OutOfMemory

-- A step of the definitions taken by code: the code has its value, or answers its refusal. Memory may be refused at any step
abbrev pub TakesStep : {A T : Type 0} → (Result A Refusal → Type 0) → (T → A) → Result T CompareFault → Type 0
TakesStep Step view r = MatchResult r (λ t. Step (Ok (view t))) (λ e. (e ≡ fault.OutOfMemory) ⊎ Step (Err (refusal_of e)))

-- the number of edges
abbrev pub edge_count : Automaton → ℕ
edge_count B = sum_by (λ s. length s.edges) B.states

-- Of the automata of the first formula and of the second one's negation each pair of edges is looked at twice on three levels, at most
abbrev pub HasFewSteps : Reading → Reading → ℕ → Type 0
HasFewSteps R S steps =
    (B : Automaton) × (C : Automaton) × MakesAutomaton stated_limits false R (Ok B) × MakesAutomaton stated_limits true S (Ok C) × (steps ≤ 6 * (edge_count B * edge_count C))

-- the same for both directions together
abbrev pub HasFewInBoth : Reading → Reading → ℕ → Type 0
HasFewInBoth R S steps = (m : ℕ) × (n : ℕ) × HasFewSteps R S m × HasFewSteps S R n × (steps ≤ m + n)
