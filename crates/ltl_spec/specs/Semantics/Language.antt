-- The promise of the translation: an automaton accepts a word exactly when the formula holds there.
use Rattle.std.specs.Prelude.{◌<◌, ◌↔◌, List, length}
use Rattle.ltl_spec.specs.Semantics.Word.{Name, Lasso, next, is_true_at}
use Rattle.ltl_spec.specs.Formulas.Formula.{Formula}
use Rattle.ltl_spec.specs.Semantics.Satisfaction.{Satisfies}
use Rattle.ltl_spec.specs.NormalForms.Normal.{Normal}
use Rattle.ltl_spec.specs.Semantics.NormalSatisfaction.{Holds}
use Rattle.ltl_spec.specs.Automata.Automaton.{Automaton, Accepts}

-- the automaton accepts exactly the ultimately periodic words on which the normal form holds
abbrev pub HasLanguageOf : Automaton → Normal → Type 0
HasLanguageOf B N = (names : List Name) (w : Lasso) → 0 < length w.cycle → Accepts names B w ↔ Holds (is_true_at names w) (next w) N 0

-- the automaton accepts exactly the ultimately periodic words that satisfy the formula
abbrev pub AcceptsModels : Automaton → Formula → Type 0
AcceptsModels B F = (names : List Name) (w : Lasso) → 0 < length w.cycle → Accepts names B w ↔ Satisfies names w 0 F

-- the automaton accepts exactly the ultimately periodic words that violate the formula
abbrev pub AcceptsViolations : Automaton → Formula → Type 0
AcceptsViolations B F = (names : List Name) (w : Lasso) → 0 < length w.cycle → Accepts names B w ↔ (¬ (Satisfies names w 0 F))
