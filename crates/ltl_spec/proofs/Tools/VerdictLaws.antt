-- What the checker prints is the verdict.
use Rattle.std.proofs.Common.{◌≡◌, ◌∙◌, ap, sym, subst, refl, ℕ, ◌≤◌, true, inr, List, Option, Some, None, arith}
use Rattle.std.specs.List.{list_all}
use Rattle.std.specs.Prelude.{Result, Ok, Err, IsTrue}
use Rattle.ltl_spec.specs.Formulas.Formula.{Reading}
use Rattle.ltl_spec.specs.Formulas.Names.{is_proposition}
use Rattle.ltl_spec.specs.NormalForms.NormalForm.{core}
use Rattle.ltl_spec.specs.Automata.Automaton.{Automaton}
use Rattle.ltl_spec.specs.Hoa.HoaReading.{AcceptanceForm, MarkedAutomaton, HoaReadsWithin}
use Rattle.ltl_spec.specs.Checking.Check.{Verdict, Contained, Violated, IsVerdict, IsViolation, IsContained}
use Rattle.ltl_spec.specs.Tools.Limits.{Limits}
use Rattle.ltl_spec.specs.Tools.Refusal.{Refusal, Checker}
use Rattle.ltl_spec.specs.Tools.Outcome.{Answer, Input, IsPromised, Seen, Then, answer_by, input_of, taken}
use Rattle.ltl_spec.specs.Tools.Readings.{IsAutomatonIn, IsFormulaIn}
use Rattle.ltl_spec.specs.Tools.Programs.{CheckerAnswers, CheckerFinds, CheckerPlan, InputReads, Judges, KeepsRows, ReadsHoa, Translates, plain_options, verdict_answer}
use Rattle.ltl_spec.specs.Tools.Run.{AreInputs, PrintsViolation, TellsVerdict}
use Rattle.ltl_spec.proofs.Hoa.HoaLaws.{one_automaton}
use Rattle.ltl_spec.proofs.Tools.StepLaws.{automaton_in, formula_in, one_formula, one_text, promise_holds, refusals_high, same_some, then_ok}
use Rattle.ltl_spec.proofs.Tools.WordNames.{needed_proposition, proper_reads, text_propositions}

module _ (l : Limits) (form : AcceptanceForm) where
  -- an input reads as one automaton
  one_given : (file : Input) (A M : MarkedAutomaton) → IsAutomatonIn l form file A → IsAutomatonIn l form file M → A ≡ M
  one_given file A M (t, p, a) (u, q, m) = one_automaton l form t A M a (subst (λ (x : List ℕ). HoaReadsWithin l form x M) (one_text file t u p q) m)

  -- the names of what was read are propositions
  formula_proper : (input : Input) (R : Reading) → IsFormulaIn l input R → IsTrue (list_all is_proposition R.names)
  formula_proper input R (t, p, g) = text_propositions t R g.1

  automaton_proper : (file : Input) (A : MarkedAutomaton) → IsAutomatonIn l form file A → IsTrue (list_all is_proposition A.names)
  automaton_proper file A (t, p, g) = g.describes.propositions

-- the words ask for one formula and one automaton
module _ (l : Limits) (form : AcceptanceForm) (plan : Option CheckerPlan) (input file : Input) (R S : Reading) (A M : MarkedAutomaton) (g : AreInputs l form plan input file R A)
    (h : AreInputs l form plan input file S M) where
  asked : h.asked ≡ g.asked
  asked = same_some h.asked g.asked (sym h.words ∙ g.words)

  same_formula : R ≡ S
  same_formula = one_formula l (input_of g.asked.formula input) R S g.formula (subst (λ (p : CheckerPlan). IsFormulaIn l (input_of p.formula input) S) asked h.formula)

  same_automaton : A ≡ M
  same_automaton = one_given l form file A M g.automaton h.automaton

module _ (l : Limits) (form : AcceptanceForm) (plan : Option CheckerPlan) (input file : Input) (seen : Seen) where
  -- a status from 2 on says nothing
  high_tells : 2 ≤ seen.status → TellsVerdict l form plan input file seen
  high_tells high = record {
    reads = λ m. absurd (omega (arith, high, m));
    contained = λ R A h z. absurd (omega (arith, high, z));
    violated = λ R A h z. absurd (omega (arith, high, z));
  }

  -- what was read decides
  verdict_tells : (R : Reading) (A : MarkedAutomaton) (B : Automaton) (v : Verdict) → AreInputs l form plan input file R A → IsVerdict A R.names B (IsViolation A R) v
      → seen.status ≡ (verdict_answer l v).status → seen.output ≡ (verdict_answer l v).output → TellsVerdict l form plan input file seen
  verdict_tells R A B Contained g h st o = record {
    reads = λ m. (R, A, g);
    contained = λ S M k z. subst (λ (x : MarkedAutomaton). IsContained x S) (same_automaton l form plan input file R S A M g k)
        (subst (λ (x : Reading). IsContained A x) (same_formula l form plan input file R S A M g k) h);
    violated = λ S M k z. absurd (omega (arith, st, z));
  }
  verdict_tells R A B (Violated w) g h st o = record {
    reads = λ m. (R, A, g);
    contained = λ S M k z. absurd (omega (arith, st, z));
    violated = λ S M k z. subst (λ (x : MarkedAutomaton). PrintsViolation x S seen.output) (same_automaton l form plan input file R S A M g k)
        (subst (λ (x : Reading). PrintsViolation A x seen.output) (same_formula l form plan input file R S A M g k) shown);
  }
    where
      shown : PrintsViolation A R seen.output
      shown = record {
        word = w;
        lasso = h.0;
        violates = h.1;
        printed = o;
        reads = proper_reads w h.0 (λ n m. needed_proposition A R.names B n (automaton_proper l form file A g.automaton) (formula_proper l form (input_of g.asked.formula input) R g.formula) (h.3 n m));
      }

module _ (l : Limits) (form : AcceptanceForm) (p : CheckerPlan) (input file : Input) (seen : Seen) where
  abbrev Checked : Reading → Automaton → MarkedAutomaton → Result Verdict Refusal → Type 0
  Checked R B A = Judges l A R.names B (IsViolation A R)

  abbrev Looked : Reading → Automaton → Result Verdict Refusal → Type 0
  Looked R B = Then (λ r. r ≡ taken l.hoa_bytes file) (λ text. Then (ReadsHoa l form text) (Checked R B))

  found_tells : (v : Verdict) → CheckerFinds l form p input file (Ok v) → seen.status ≡ (verdict_answer l v).status → seen.output ≡ (verdict_answer l v).output → TellsVerdict l form (Some p) input file seen
  found_tells v h st o =
      let (R, reads, h1) = then_ok (InputReads l (input_of p.formula input)) (λ R. Then (KeepsRows l (core R.formula true true)) (λ N. Then (Translates l N plain_options) (Looked R))) v h in
      let (N, kept, h2) = then_ok (KeepsRows l (core R.formula true true)) (λ N. Then (Translates l N plain_options) (Looked R)) v h1 in
      let (B, made, h3) = then_ok (Translates l N plain_options) (Looked R) v h2 in
      let (text, took, h4) = then_ok (λ r. r ≡ taken l.hoa_bytes file) (λ text. Then (ReadsHoa l form text) (Checked R B)) v h3 in
      let (A, read, judged) = then_ok (ReadsHoa l form text) (Checked R B) v h4 in
      let formula = formula_in l (input_of p.formula input) R reads in
      let automaton = automaton_in l form file A (inr (text, took, read)) in
      verdict_tells l form (Some p) input file seen R A B v (record { asked = p; words = refl; formula = formula; automaton = automaton }) judged.2 st o

  answer_tells : (r : Result Verdict Refusal) → CheckerFinds l form p input file r → seen.status ≡ (answer_by l Checker (verdict_answer l) r).status
      → seen.output ≡ (answer_by l Checker (verdict_answer l) r).output → TellsVerdict l form (Some p) input file seen
  answer_tells (Ok v) h st o = found_tells v h st o
  answer_tells (Err e) h st o = high_tells l form (Some p) input file seen (subst (λ n. 2 ≤ n) (sym st) (refusals_high e))

-- what a run of the checker may show tells the verdict
pub promised_verdict : (l : Limits) (form : AcceptanceForm) (plan : Option CheckerPlan) (input file : Input) (seen : Seen) → IsPromised l Checker (CheckerAnswers l form plan input file) seen
    → TellsVerdict l form plan input file seen
promised_verdict l form plan input file seen h =
    promise_holds l Checker (CheckerAnswers l form plan input file) (TellsVerdict l form plan input file) seen (right plan) (high_tells l form plan input file seen) h
  where
    right : (plan : Option CheckerPlan) (a : Answer) → CheckerAnswers l form plan input file a → seen.status ≡ a.status → seen.output ≡ a.output → TellsVerdict l form plan input file seen
    right None a e st o = high_tells l form None input file seen (let s = st ∙ ap (λ (x : Answer). x.status) e in omega (arith, s))
    right (Some p) a (r, h, e) st o = answer_tells l form p input file seen r h (st ∙ ap (λ (x : Answer). x.status) e) (o ∙ ap (λ (x : Answer). x.output) e)
