-- What is translated holds on a lasso exactly where the formula holds, or for the negation where it doesn't.
use Rattle.std.proofs.Common.{ℕ, ◌<◌, Bool, true, false, List, length, ◌↔◌}
use Rattle.ltl_spec.specs.Semantics.Word.{Name, Lasso, next, is_true_at}
use Rattle.ltl_spec.specs.Formulas.Formula.{Formula}
use Rattle.ltl_spec.specs.Semantics.Satisfaction.{Satisfies}
use Rattle.ltl_spec.specs.NormalForms.Normal.{Normal}
use Rattle.ltl_spec.specs.NormalForms.NormalForm.{normal_form, core}
use Rattle.ltl_spec.specs.Semantics.NormalSatisfaction.{Holds}
use Rattle.ltl_spec.proofs.Semantics.LassoLaws.{decide_until}
use Rattle.ltl_spec.proofs.Semantics.NormalFormLaws.{decided, no_form, yes_form}
use Rattle.ltl_spec.proofs.Semantics.SimplifiedLaws.{alike_simple_form}

module _ (names : List Name) (w : Lasso) (cycles : 0 < length w.cycle) where
  -- a formula in normal form holds at a position of the word
  abbrev pub NormalHolds : Normal → ℕ → Type 0
  NormalHolds = Holds (is_true_at names w) (next w)

  -- whether a formula holds is decided
  pub satisfies_decided : (F : Formula) (i : ℕ) → Dec (Satisfies names w i F)
  satisfies_decided = decided (is_true_at names w) (next w) (decide_until w cycles)

  pub core_holds : (F : Formula) (rewrite : Bool) (i : ℕ) → Satisfies names w i F ↔ NormalHolds (core F false rewrite) i
  core_holds F true i =
      let a = alike_simple_form (is_true_at names w) (next w) (normal_form true F) in
      let h = yes_form (is_true_at names w) (next w) (decide_until w cycles) F i in
      ((λ s. a.from i (h.0 s)), λ n. h.1 (a.to i n))
  core_holds F false i = yes_form (is_true_at names w) (next w) (decide_until w cycles) F i

  pub negated_core_holds : (F : Formula) (rewrite : Bool) (i : ℕ) → (¬ (Satisfies names w i F)) ↔ NormalHolds (core F true rewrite) i
  negated_core_holds F true i =
      let a = alike_simple_form (is_true_at names w) (next w) (normal_form false F) in
      let h = no_form (is_true_at names w) (next w) (decide_until w cycles) F i in
      ((λ s. a.from i (h.0 s)), λ n. h.1 (a.to i n))
  negated_core_holds F false i = no_form (is_true_at names w) (next w) (decide_until w cycles) F i
