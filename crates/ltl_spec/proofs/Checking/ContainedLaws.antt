-- The check as a whole: an automaton as it was read, a formula as it was read, and the translation of the negated formula.
use Rattle.std.proofs.Common.{ℕ, Bool, true, ◌↔◌, List, length}
use Rattle.ltl_spec.specs.Formulas.Formula.{Reading}
use Rattle.ltl_spec.specs.Formulas.Tokens.{Token}
use Rattle.ltl_spec.specs.Formulas.Grammar.{Reads}
use Rattle.ltl_spec.specs.NormalForms.NormalForm.{core}
use Rattle.ltl_spec.specs.Automata.Automaton.{Automaton}
use Rattle.ltl_spec.specs.Construction.Translation.{Options, IsTranslation}
use Rattle.ltl_spec.specs.Tools.Limits.{Limits}
use Rattle.ltl_spec.specs.Hoa.HoaReading.{AcceptanceForm, MarkedAutomaton, HoaReadsWithin}
use Rattle.ltl_spec.specs.Checking.Check.{IsContained}
use Rattle.ltl_spec.specs.Checking.Searched.{HasCommonWalk}
use Rattle.ltl_spec.specs.Checking.Bounds.{IsBuchi, IsProper}
use Rattle.ltl_spec.proofs.Semantics.LanguageLaws.{translation_violations}
use Rattle.ltl_spec.proofs.Checking.BelowLaws.{core_below, parsed_below, translation_is_buchi}
use Rattle.ltl_spec.proofs.Checking.VerdictLaws.{contained_exactly}
use Rattle.ltl_spec.proofs.Checking.DocumentLaws.{document_proper}

-- an automaton that was read can be searched
pub read_proper : (l : Limits) (form : AcceptanceForm) (text : List ℕ) (A : MarkedAutomaton) → HoaReadsWithin l form text A → IsProper A
read_proper l form text A r = document_proper form A r.document r.describes

-- so can the translation of a formula that was read
pub read_buchi : (tokens : List Token) (R : Reading) → Reads tokens R → (rewrite : Bool) (o : Options) (B : Automaton) → IsTranslation (core R.formula true rewrite) o B → IsBuchi (length R.names) B
read_buchi tokens R reads rewrite o B t =
    translation_is_buchi (length R.names) (core R.formula true rewrite) o B t (core_below (length R.names) R.formula true rewrite (parsed_below 5 tokens R.formula reads.1))

module _ (l : Limits) (form : AcceptanceForm) (text : List ℕ) (A : MarkedAutomaton) (given : HoaReadsWithin l form text A) (tokens : List Token) (R : Reading) (reads : Reads tokens R)
    (rewrite : Bool) (o : Options) (B : Automaton) (translated : IsTranslation (core R.formula true rewrite) o B) where
  proper : IsProper A
  proper = read_proper l form text A given

  buchi : IsBuchi (length R.names) B
  buchi = read_buchi tokens R reads rewrite o B translated

  -- all words that are accepted satisfy the formula exactly when the search finds nothing
  pub check_contained : IsContained A R ↔ (¬ (HasCommonWalk A R.names B))
  check_contained = contained_exactly A proper R B buchi (translation_violations R.formula rewrite o B translated)
