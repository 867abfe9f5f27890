-- The propositions of a translated automaton.
use Rattle.std.specs.Prelude.{◌≡◌, ℕ, Bool}
use Rattle.ltl_spec.specs.Formulas.Formula.{Formula}
use Rattle.ltl_spec.specs.NormalForms.Normal.{Normal}
use Rattle.ltl_spec.specs.NormalForms.NormalForm.{core}
use Rattle.ltl_spec.specs.Automata.Automaton.{Automaton}
use Rattle.ltl_spec.specs.Checking.Bounds.{HasPropositionsBelow, HasNamesBelow}

-- its literals are of the propositions of each formula of which, or of whose negation, this is the normal form
abbrev pub HasNamesOf : Normal → Automaton → Type 0
HasNamesOf N A = (n : ℕ) (F : Formula) (negate rewrite : Bool) → HasPropositionsBelow n F → N ≡ core F negate rewrite → HasNamesBelow n A
