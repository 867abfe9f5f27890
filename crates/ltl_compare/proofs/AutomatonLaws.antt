-- What was translated, as a step of the definitions.
use Rattle.std.proofs.Common.{◌≡◌, ◌∙◌, ap, sym, subst, refl, ℕ, suc, ◌+◌, ◌≤◌, Bool, true, false, cond, ◌||◌, inl, inr, ◌⊎◌, List, [], ◌∷◌, filter, length, arith}
use Rattle.std.specs.Prelude.{map, Result, Ok, Err}
use Rattle.ltl_spec.specs.Collections.Lists.{places_from}
use Rattle.ltl_spec.specs.Formulas.Formula.{Reading}
use Rattle.ltl_spec.specs.NormalForms.Normal.{Normal, same}
use Rattle.ltl_spec.specs.NormalForms.NormalForm.{core, rows, elementary_rows, is_elementary}
use Rattle.ltl_spec.specs.Automata.Automaton.{Automaton}
use Rattle.ltl_spec.specs.Construction.Translation.{IsTranslation, IsTranslationTooLarge}
use Rattle.ltl_spec.specs.Semantics.Language.{AcceptsModels, AcceptsViolations}
use Rattle.ltl_spec.specs.Checking.Bounds.{HasNamesBelow}
use Rattle.ltl_spec.specs.Tools.Limits.{stated_limits}
use Rattle.ltl_spec.specs.Tools.Programs.{KeepsRows, plain_options}
use Rattle.ltl_spec.specs.Tools.Comparison.{MakesAutomaton}
use Rattle.ltl_spec.proofs.Checking.BelowLaws.{named_below}
use Rattle.ltl_spec.proofs.Collections.MemberLaws.{map_length}
use Rattle.ltl_spec.proofs.NormalForms.SharedNodes.{trees_length}
use Rattle.ltl_spec.proofs.Semantics.LanguageLaws.{translation_models, translation_violations}
use Rattle.ltl_spec.proofs.Tools.StepLaws.{never}
use Rattle.ltl_syntax.specs.FormulaView.{FormulaView, IsFormula, reading_of}
use Rattle.ltl_formula.specs.SharedNodesView.{node_of}
use Rattle.ltl_formula.specs.TableView.{TableView, IsTable, core_of, row_trees}
use Rattle.ltl_models.specs.Named.{HasNamesOf}
use Rattle.ltl_automaton.specs.declared.fault.AutomatonFault.{AutomatonFault}
use Rattle.ltl_automaton.specs.declared.fault.AutomatonFault.TheVariants as fault
use Rattle.ltl_compare.specs.declared.fault.CompareFault.TheVariants.{OutOfMemory}
use Rattle.ltl_compare.specs.ComparisonView.{refusal_of}
use Rattle.ltl_compare.specs.Faults.{of_translation}

trees_long : (t : TableView) → length (row_trees t.rows) ≡ length t.rows
trees_long t = trees_length (map node_of t.rows) ∙ map_length node_of t.rows

-- as many places as elements that pass
places_count : {K : Type 0} (p : K → Bool) (n : ℕ) (xs : List K) → length (places_from p n xs) ≡ length (filter p xs)
places_count p n [] = refl
places_count p n (x ∷ xs) = chosen (p x) (places_count p (n + 1) xs)
  where
    chosen : (b : Bool) → length (places_from p (n + 1) xs) ≡ length (filter p xs)
        → length (cond b (n ∷ places_from p (n + 1) xs) (places_from p (n + 1) xs)) ≡ length (cond b (x ∷ filter p xs) (filter p xs))
    chosen true e = ap suc e
    chosen false e = e

-- a table is within the limits
table_kept : (t : TableView) (N : Normal) → IsTable t → core_of t ≡ N → KeepsRows stated_limits N (Ok N)
table_kept t N h e = subst (λ (M : Normal). KeepsRows stated_limits M (Ok M)) e (refl, few, few_elementary)
  where
    few : length (rows (core_of t)) ≤ stated_limits.rows
    few =
        let counted = ap length (sym h.table.rows) ∙ trees_long t in
        let most = h.few in
        omega (arith, counted, most)

    few_elementary : length (elementary_rows (core_of t)) ≤ stated_limits.elementary_rows
    few_elementary =
        let counted = ap length h.table.elementary ∙ places_count (λ a. is_elementary a || same a (core_of t)) 0 (rows (core_of t)) in
        let most = h.few_elementary in
        omega (arith, counted, most)

module _ (t : TableView) (R : Reading) (negate : Bool) (h : IsTable t) (c : core_of t ≡ core R.formula negate true) where
  -- the automaton is too large, or memory was refused
  pub translation_refused : (e : AutomatonFault)
      → (◌≡◌ {A = Result Automaton AutomatonFault} (Err e) (Err fault.TooLarge) → IsTranslationTooLarge (core_of t) plain_options stated_limits.states stated_limits.edges)
      → (of_translation e ≡ OutOfMemory) ⊎ MakesAutomaton stated_limits negate R (Err (refusal_of (of_translation e)))
  translation_refused fault.TooLarge large =
      inr (inr (
        core R.formula negate true,
        table_kept t (core R.formula negate true) h c,
        subst (λ (M : Normal). IsTranslationTooLarge M plain_options stated_limits.states stated_limits.edges) c (large refl),
      ))
  translation_refused fault.OutOfMemory large = inl refl

  pub translation_made : (B : Automaton) → IsTranslation (core_of t) plain_options B → ¬ (IsTranslationTooLarge (core_of t) plain_options stated_limits.states stated_limits.edges)
      → MakesAutomaton stated_limits negate R (Ok B)
  translation_made B made fits =
      inr (
        core R.formula negate true,
        table_kept t (core R.formula negate true) h c,
        subst (λ (M : Normal). IsTranslation M plain_options B × ¬ (IsTranslationTooLarge M plain_options stated_limits.states stated_limits.edges)) c (made, fits),
      )

-- its propositions have names
pub made_named : (f : FormulaView) → IsFormula f.nodes f.names → (t : TableView) (negate : Bool) (B : Automaton) → core_of t ≡ core (reading_of f).formula negate true → HasNamesOf (core_of t) B
    → HasNamesBelow (length f.names) B
made_named f formula t negate B e names = names (length f.names) (reading_of f).formula negate true (named_below (reading_of f) formula.named) e

-- the automaton of a formula accepts exactly the models, and that of its negation exactly the violations
pub makes_models : (R : Reading) (B : Automaton) → MakesAutomaton stated_limits false R (Ok B) → AcceptsModels B R.formula
makes_models R B (inl (e, h, q)) = absurd (never B e (sym q))
makes_models R B (inr (M, k, h)) = translation_models R.formula true plain_options B (subst (λ (N : Normal). IsTranslation N plain_options B) k.0 h.0)

pub makes_violations : (R : Reading) (B : Automaton) → MakesAutomaton stated_limits true R (Ok B) → AcceptsViolations B R.formula
makes_violations R B (inl (e, h, q)) = absurd (never B e (sym q))
makes_violations R B (inr (M, k, h)) = translation_violations R.formula true plain_options B (subst (λ (N : Normal). IsTranslation N plain_options B) k.0 h.0)
