-- The language theorem: the Büchi automaton of a formula accepts exactly the words that satisfy the formula, whatever the options.
use Rattle.std.proofs.Common.{ℕ, Bool, true, false, ◌↔◌, subst, sym}
use Rattle.ltl_spec.specs.Semantics.Word.{next, is_true_at}
use Rattle.ltl_spec.specs.Formulas.Formula.{Formula}
use Rattle.ltl_spec.specs.NormalForms.Normal.{Normal}
use Rattle.ltl_spec.specs.NormalForms.NormalForm.{core}
use Rattle.ltl_spec.specs.Semantics.NormalSatisfaction.{Holds}
use Rattle.ltl_spec.specs.Automata.Automaton.{Automaton, Accepts}
use Rattle.ltl_spec.proofs.Semantics.Runs.{Run, IsClosed}
use Rattle.ltl_spec.specs.Construction.Merging.{merged_automaton}
use Rattle.ltl_spec.specs.Construction.Levels.{level_automaton}
use Rattle.ltl_spec.specs.Construction.Translation.{Options, buchi_automaton, IsTranslation}
use Rattle.ltl_spec.specs.Semantics.Language.{HasLanguageOf, AcceptsModels, AcceptsViolations}
use Rattle.ltl_spec.specs.Automata.GeneralizedText.{IsGeneralizedTranslation}
use Rattle.ltl_spec.specs.Construction.Renumbered.{renumbered_automaton}
use Rattle.ltl_spec.proofs.Semantics.CoreLaws.{core_holds, negated_core_holds}
use Rattle.ltl_spec.proofs.Semantics.RunLaws.{accepts_by_run}
use Rattle.ltl_spec.proofs.Construction.QuotientRuns.{HasSetEdges, HasAllAccepting}
use Rattle.ltl_spec.proofs.Construction.SetEdges.{generalized_sets, levels_sets}
use Rattle.ltl_spec.proofs.Construction.MergingRuns.{merged_closed, merged_sets, merged_accepting, merged_run, run_of_merged}
use Rattle.ltl_spec.proofs.Construction.LevelRuns.{levels_closed, levels_run, run_of_levels}
use Rattle.ltl_spec.proofs.Construction.RenumberedRuns.{renumbered_run, run_of_renumbered}
use Rattle.ltl_spec.proofs.Semantics.GeneralizedLaws.{generalized_closed, generalized_accepting}
use Rattle.ltl_spec.proofs.Semantics.GeneralizedLasso.{run_iff_holds}

-- merging, levels, merging and numbering keep the accepting runs
module _ (o : Options) (A : Automaton) (closed : IsClosed A) (sets : HasSetEdges A) (all : HasAllAccepting A) (holds : ℕ → ℕ → Bool) (step : ℕ → ℕ) where
  abbrev small : Automaton
  small = merged_automaton o.keep_implied o.keep_equal A

  abbrev leveled : Automaton
  leveled = level_automaton small

  abbrev smaller : Automaton
  smaller = merged_automaton o.keep_implied o.keep_equal leveled

  small_closed : IsClosed small
  small_closed = merged_closed A o.keep_implied o.keep_equal closed

  leveled_closed : IsClosed leveled
  leveled_closed = levels_closed small small_closed

  leveled_sets : HasSetEdges leveled
  leveled_sets = levels_sets small (merged_sets A o.keep_implied o.keep_equal sets)

  smaller_closed : IsClosed smaller
  smaller_closed = merged_closed leveled o.keep_implied o.keep_equal leveled_closed

  pub buchi_run : Run A holds step → Run (buchi_automaton o A) holds step
  buchi_run r =
      renumbered_run smaller smaller_closed holds step
      (merged_run leveled o.keep_implied o.keep_equal holds step leveled_closed leveled_sets
      (levels_run small small_closed holds step
      (merged_run A o.keep_implied o.keep_equal holds step closed sets r)))

  pub run_of_buchi : Run (buchi_automaton o A) holds step → Run A holds step
  run_of_buchi r =
      run_of_merged A o.keep_implied o.keep_equal holds step closed
      (run_of_levels small small_closed holds step (merged_accepting A o.keep_implied o.keep_equal all)
      (run_of_merged leveled o.keep_implied o.keep_equal holds step leveled_closed
      (run_of_renumbered smaller smaller_closed holds step r)))

-- the automaton of a normal form has its language
pub translation_language : (N : Normal) (o : Options) (B : Automaton) → IsTranslation N o B → HasLanguageOf B N
translation_language N o B t names w cycles =
    let A = t.0 in
    let closed = generalized_closed N o.keep_implied A t.1 in
    let sets = generalized_sets N o.keep_implied A t.1 in
    let all : HasAllAccepting A = λ s l. generalized_accepting N o.keep_implied A t.1 s in
    let formula = run_iff_holds names w cycles N o.keep_implied A t.1 in
    let walks = accepts_by_run names (buchi_automaton o A) w cycles in
    let P : Automaton → Type 0 = λ C. Accepts names C w ↔ Holds (is_true_at names w) (next w) N 0 in
    subst P (sym t.2) (
      λ a. formula.0 (run_of_buchi o A closed sets all (is_true_at names w) (next w) (walks.0 a)),
      λ h. walks.1 (buchi_run o A closed sets all (is_true_at names w) (next w) (formula.1 h)),
    )

-- what has the language of a formula's normal form accepts exactly its models, and with that of its negation exactly its violations
models_of : (F : Formula) (rewrite : Bool) (A : Automaton) → HasLanguageOf A (core F false rewrite) → AcceptsModels A F
models_of F rewrite A l names w cycles = let c = core_holds names w cycles F rewrite 0 in let a = l names w cycles in (λ h. c.1 (a.0 h), λ h. a.1 (c.0 h))

violations_of : (F : Formula) (rewrite : Bool) (A : Automaton) → HasLanguageOf A (core F true rewrite) → AcceptsViolations A F
violations_of F rewrite A l names w cycles = let c = negated_core_holds names w cycles F rewrite 0 in let a = l names w cycles in (λ h. c.1 (a.0 h), λ h. a.1 (c.0 h))

-- the automaton of a formula accepts exactly its models
pub translation_models : (F : Formula) (rewrite : Bool) (o : Options) (B : Automaton) → IsTranslation (core F false rewrite) o B → AcceptsModels B F
translation_models F rewrite o B t = models_of F rewrite B (translation_language (core F false rewrite) o B t)

-- the automaton of the negation accepts exactly the violations
pub translation_violations : (F : Formula) (rewrite : Bool) (o : Options) (B : Automaton) → IsTranslation (core F true rewrite) o B → AcceptsViolations B F
translation_violations F rewrite o B t = violations_of F rewrite B (translation_language (core F true rewrite) o B t)

-- the generalized automaton, merged and numbered, has the language of the normal form too
pub generalized_language : (N : Normal) (o : Options) (A : Automaton) → IsGeneralizedTranslation N o A → HasLanguageOf A N
generalized_language N o A t names w cycles =
    let G = t.0 in
    let closed = generalized_closed N o.keep_implied G t.1 in
    let sets = generalized_sets N o.keep_implied G t.1 in
    let merged = merged_automaton o.keep_implied o.keep_equal G in
    let merged_is_closed = merged_closed G o.keep_implied o.keep_equal closed in
    let formula = run_iff_holds names w cycles N o.keep_implied G t.1 in
    let walks = accepts_by_run names (renumbered_automaton merged) w cycles in
    let P : Automaton → Type 0 = λ C. Accepts names C w ↔ Holds (is_true_at names w) (next w) N 0 in
    subst P (sym t.2) (
      λ a. formula.0 (run_of_merged G o.keep_implied o.keep_equal (is_true_at names w) (next w) closed (run_of_renumbered merged merged_is_closed (is_true_at names w) (next w) (walks.0 a))),
      λ h. walks.1 (renumbered_run merged merged_is_closed (is_true_at names w) (next w) (merged_run G o.keep_implied o.keep_equal (is_true_at names w) (next w) closed sets (formula.1 h))),
    )

-- so that of a formula accepts exactly its models
pub generalized_models : (F : Formula) (rewrite : Bool) (o : Options) (A : Automaton) → IsGeneralizedTranslation (core F false rewrite) o A → AcceptsModels A F
generalized_models F rewrite o A t = models_of F rewrite A (generalized_language (core F false rewrite) o A t)

-- and that of the negation exactly its violations
pub generalized_violations : (F : Formula) (rewrite : Bool) (o : Options) (A : Automaton) → IsGeneralizedTranslation (core F true rewrite) o A → AcceptsViolations A F
generalized_violations F rewrite o A t = violations_of F rewrite A (generalized_language (core F true rewrite) o A t)
