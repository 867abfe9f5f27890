-- One formula implies another exactly where no word is accepted by an automaton of the first one and by one of the second one's violations.
use Rattle.std.proofs.Common.{◌≡◌, ◌↔◌, ◌⊎◌, inl, inr, subst, Option, Some, None}
use Rattle.ltl_spec.specs.Collections.Sets.{Has}
use Rattle.ltl_spec.specs.Semantics.Word.{Name, Lasso, IsLasso}
use Rattle.ltl_spec.specs.Semantics.Satisfaction.{Satisfies}
use Rattle.ltl_spec.specs.Semantics.Language.{AcceptsModels, AcceptsViolations}
use Rattle.ltl_spec.specs.Formulas.Formula.{Reading}
use Rattle.ltl_spec.specs.Automata.Automaton.{Automaton, Accepts}
use Rattle.ltl_spec.specs.Hoa.HoaReading.{MarkedAutomaton}
use Rattle.ltl_spec.specs.Checking.Check.{IsCommon, IsNeeded, IsVerdict, MarkedAccepts, Verdict, Contained, Violated, cubes_of, marked_cubes}
use Rattle.ltl_spec.specs.Checking.Comparison.{Entails, IsEntailment}
use Rattle.ltl_spec.proofs.Semantics.CoreLaws.{satisfies_decided}
use Rattle.ltl_spec.proofs.Tools.WordNames.{positive_listed}

-- the word of a verdict, if there is one
abbrev pub word_in : Verdict → Option Lasso
word_in Contained = None
word_in (Violated w) = Some w

-- A has the names of the first formula and accepts its models, C accepts the violations of the second one
module _ (A : MarkedAutomaton) (R S : Reading) (B C : Automaton) (own : A.names ≡ R.names) (alike : (w : Lasso) → MarkedAccepts A w ↔ Accepts R.names B w) (models : AcceptsModels B R.formula)
    (violations : AcceptsViolations C S.formula) where
  listed : (n : Name) → IsNeeded A S.names C n → Has R.names n ⊎ Has S.names n
  listed n (inl h) = inl (subst (λ ns. Has ns n) own (positive_listed A.names (marked_cubes A) n h))
  listed n (inr h) = inr (positive_listed S.names (cubes_of C) n h)

  -- no word is accepted by both
  entails : ((w : Lasso) → IsLasso w → ¬ (IsCommon A S.names C w)) → Entails R S
  entails none w l h = of (satisfies_decided S.names w l.cycles S.formula 0)
    where
      of : Dec (Satisfies S.names w 0 S.formula) → Satisfies S.names w 0 S.formula
      of (yes s) = s
      of (no v) = absurd (none w l ((alike w).1 ((models R.names w l.cycles).1 h), (violations S.names w l.cycles).1 v))

  -- a verdict tells whether the second formula follows
  pub verdict_entails : (v : Verdict) → IsVerdict A S.names C (IsCommon A S.names C) v → IsEntailment R S (word_in v)
  verdict_entails Contained h = entails h
  verdict_entails (Violated w) (l, c, least, needed) = record {
    lasso = l;
    satisfies = (models R.names w l.cycles).0 ((alike w).0 c.0);
    violates = (violations S.names w l.cycles).0 c.1;
    least = least;
    named = λ n m. listed n (needed n m);
  }
