-- What the evaluator prints is the truth.
use Rattle.std.proofs.Common.{◌≡◌, ◌∙◌, ap, sym, subst, refl, ◌≤◌, Bool, true, false, inl, inr, Option, Some, None, arith}
use Rattle.std.specs.Prelude.{Result, Ok, Err, ◌↔◌}
use Rattle.ltl_spec.specs.Formulas.Formula.{Reading}
use Rattle.ltl_spec.specs.Semantics.Word.{Lasso}
use Rattle.ltl_spec.specs.Semantics.Satisfaction.{Satisfies}
use Rattle.ltl_spec.specs.Words.LassoText.{IsLassoText}
use Rattle.ltl_spec.specs.Tools.Limits.{Limits}
use Rattle.ltl_spec.specs.Tools.Refusal.{Refusal, Evaluator}
use Rattle.ltl_spec.specs.Tools.Outcome.{Answer, Input, IsPromised, Seen, Then, answer_by, input_of}
use Rattle.ltl_spec.specs.Tools.Readings.{IsFormulaIn}
use Rattle.ltl_spec.specs.Tools.Programs.{EvaluatorAnswers, EvaluatorFinds, EvaluatorPlan, Evaluates, InputReads, ReadsWord, truth_answer}
use Rattle.ltl_spec.specs.Tools.Run.{AreRead, TellsTruth}
use Rattle.ltl_spec.proofs.Words.LassoTextLaws.{one_word}
use Rattle.ltl_spec.proofs.Tools.StepLaws.{formula_in, one_formula, promise_holds, refusals_high, same_ok, same_some, then_ok}

-- the words ask for one formula and one word
module _ (l : Limits) (plan : Option EvaluatorPlan) (input : Input) (R S : Reading) (v w : Lasso) (g : AreRead l plan input R v) (h : AreRead l plan input S w) where
  asked : h.asked ≡ g.asked
  asked = same_some h.asked g.asked (sym h.words ∙ g.words)

  same_formula : R ≡ S
  same_formula = one_formula l (input_of g.asked.formula input) R S g.formula (subst (λ (p : EvaluatorPlan). IsFormulaIn l (input_of p.formula input) S) asked h.formula)

  same_word : v ≡ w
  same_word = one_word g.asked.word v w g.word.1 (subst (λ (p : EvaluatorPlan). IsLassoText p.word w) asked h.word.1)

module _ (l : Limits) (plan : Option EvaluatorPlan) (input : Input) (seen : Seen) where
  -- a status from 2 on says nothing
  high_tells : 2 ≤ seen.status → TellsTruth l plan input seen
  high_tells high = record { reads = λ m. absurd (omega (arith, high, m)); truth = λ m. absurd (omega (arith, high, m)) }

  -- what was read decides
  decides_tells : (R : Reading) (w : Lasso) → AreRead l plan input R w → (seen.status ≡ 0) ↔ Satisfies R.names w 0 R.formula → TellsTruth l plan input seen
  decides_tells R w g d = record {
    reads = λ m. (R, w, g);
    truth = λ m S v h. subst (λ (x : Lasso). (seen.status ≡ 0) ↔ Satisfies S.names x 0 S.formula) (same_word l plan input R S w v g h)
        (subst (λ (X : Reading). (seen.status ≡ 0) ↔ Satisfies X.names w 0 X.formula) (same_formula l plan input R S w v g h) d);
  }

module _ (l : Limits) (p : EvaluatorPlan) (input : Input) (seen : Seen) where
  decided : (R : Reading) (w : Lasso) (b : Bool) → Evaluates l R w (Ok b) → seen.status ≡ (truth_answer l b).status → (seen.status ≡ 0) ↔ Satisfies R.names w 0 R.formula
  decided R w b (inl (e, s)) st = ((λ z. s), λ t. st ∙ ap (λ (c : Bool). (truth_answer l c).status) (same_ok b true e))
  decided R w b (inr (e, n)) st = ((λ z. let o = st ∙ ap (λ (c : Bool). (truth_answer l c).status) (same_ok b false e) in absurd (omega (arith, o, z))), λ t. absurd (n t))

  found_tells : (r : Result Bool Refusal) → EvaluatorFinds l p input r → seen.status ≡ (answer_by l Evaluator (truth_answer l) r).status → TellsTruth l (Some p) input seen
  found_tells (Err e) h st = high_tells l (Some p) input seen (subst (λ n. 2 ≤ n) (sym st) (refusals_high e))
  found_tells (Ok b) h st =
      let (R, reads, h1) = then_ok (InputReads l (input_of p.formula input)) (λ R. Then (ReadsWord l R.names p.word) (λ w. Evaluates l R w)) b h in
      let (w, word, h2) = then_ok (ReadsWord l R.names p.word) (λ w. Evaluates l R w) b h1 in
      decides_tells l (Some p) input seen R w (record { asked = p; words = refl; formula = formula_in l (input_of p.formula input) R reads; word = word }) (decided R w b h2 st)

-- what a run of the evaluator may show tells the truth
pub promised_truth : (l : Limits) (plan : Option EvaluatorPlan) (input : Input) (seen : Seen) → IsPromised l Evaluator (EvaluatorAnswers l plan input) seen → TellsTruth l plan input seen
promised_truth l plan input seen h = promise_holds l Evaluator (EvaluatorAnswers l plan input) (TellsTruth l plan input) seen (right plan) (high_tells l plan input seen) h
  where
    right : (plan : Option EvaluatorPlan) (a : Answer) → EvaluatorAnswers l plan input a → seen.status ≡ a.status → seen.output ≡ a.output → TellsTruth l plan input seen
    right None a e st o = high_tells l None input seen (let s = st ∙ ap (λ (x : Answer). x.status) e in omega (arith, s))
    right (Some p) a (r, h, e) st o = found_tells l p input seen r h (st ∙ ap (λ (x : Answer). x.status) e)
