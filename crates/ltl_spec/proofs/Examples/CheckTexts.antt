-- Worked examples: a formula printed as a claim, and an automaton checked against it, from the words to the answers.
use Rattle.std.proofs.Common.{◌≡◌, ℕ, zero, suc, ◌<◌, true, false, inl, inr, [], ◌∷◌, refl, sym, ◌∙◌, ap, arith, Some, None}
use Rattle.std.specs.Prelude.{Ok, codes, IsTrue}
use Rattle.std.specs.Fmt.{digits}
use Rattle.std.proofs.lemmas.Bool.{false≢true}
use Rattle.ltl_spec.specs.Semantics.Word.{Lasso, IsLasso, next, after_steps, is_true_at}
use Rattle.ltl_spec.specs.Formulas.Formula.{Proposition, Unary, Eventually, Reading}
use Rattle.ltl_spec.specs.Formulas.Grammar.{IsTextOf}
use Rattle.ltl_spec.specs.NormalForms.NormalForm.{core}
use Rattle.ltl_spec.specs.Automata.Automaton.{Edge}
use Rattle.ltl_spec.specs.Tools.Limits.{stated_limits}
use Rattle.ltl_spec.specs.Tools.Outcome.{NotOpened, Ended, Given}
use Rattle.ltl_spec.specs.Checking.Check.{MarkedAccepts, IsViolation, Violated}
use Rattle.ltl_spec.specs.Tools.Programs.{Claim, plain_options, ReadsFormula, Translates, TranslatorPlan, TranslatorAnswers, CheckerPlan, CheckerAnswers}
use Rattle.ltl_spec.proofs.Formulas.ReaderLaws.{verdict_reading}
use Rattle.ltl_spec.proofs.Words.LeastLaws.{least_form_is}
use Rattle.ltl_spec.proofs.Examples.WithinLimits.{generalized_within, translation_fits}
use Rattle.ltl_spec.proofs.Examples.Claims.{translation_within}
use Rattle.ltl_spec.proofs.Examples.InputTexts.{text_e, automaton_e, reads_e, rising}
use Rattle.ltl_spec.proofs.Examples.ProgramTexts.{answer}

-- `<>p`
abbrev pub eventually : Reading
eventually = record { formula = Unary Eventually (Proposition 0); names = codes "p" ∷ [] }

eventually_text : IsTextOf (codes "<>p") eventually
eventually_text = verdict_reading (codes "<>p") eventually refl

pub eventually_read : ReadsFormula stated_limits (codes "<>p") (Ok eventually)
eventually_read = (omega arith, eventually_text, omega arith)

-- two sets of rows, and two copies
eventually_translates : Translates stated_limits (core eventually.formula false true) plain_options (Ok (translation_within 2 plain_options (core eventually.formula false true)))
eventually_translates = (
  (generalized_within (core eventually.formula false true) false 2, (2, refl, refl), refl),
  translation_fits (core eventually.formula false true) plain_options 2 2 65_536 1_048_576 refl (omega arith) (omega arith) refl (omega arith) (omega arith),
)

-- of the negated formula one set of rows and one copy
negated_translates : Translates stated_limits (core eventually.formula true true) plain_options (Ok (translation_within 1 plain_options (core eventually.formula true true)))
negated_translates = (
  (generalized_within (core eventually.formula true true) false 1, (1, refl, refl), refl),
  translation_fits (core eventually.formula true true) plain_options 1 1 65_536 1_048_576 refl (omega arith) (omega arith) refl (omega arith) (omega arith),
)

abbrev print_plan : TranslatorPlan
print_plan = record { formula = Given (codes "<>p"); rewrite = true; options = plain_options; layout = Claim }

-- the translator with `-f '<>p'`
claim_answer : TranslatorAnswers stated_limits (Some print_plan) NotOpened
    (answer (codes "never { /* <>p */\nT0_init:\n\tif\n\t:: (1) -> goto T0_init\n\t:: (p) -> goto accept_all\n\tfi;\naccept_all:\n\tskip\n}\n") [] 0)
unfolding digits
claim_answer = (
  Ok (codes "never { /* <>p */\nT0_init:\n\tif\n\t:: (1) -> goto T0_init\n\t:: (p) -> goto accept_all\n\tfi;\naccept_all:\n\tskip\n}\n"),
  inr (
    eventually,
    inr (codes "<>p", refl, eventually_read),
    inr (
      core eventually.formula false true,
      (refl, omega arith, omega arith),
      inr (translation_within 2 plain_options (core eventually.formula false true), eventually_translates, refl),
    ),
  ),
  refl,
)

-- the word `cycle {}` is accepted by the sample automaton, and p is never true in it
abbrev pub empty_word : Lasso
empty_word = record { stem = []; cycle = [] ∷ [] }

abbrev loop : Edge
loop = record { cube = record { proposition = 0; positive = false } ∷ []; target = 0; marks = 0 ∷ [] }

empty_accepted : MarkedAccepts automaton_e empty_word
empty_accepted = record {
  state = 0;
  position = 0;
  stem = [];
  cycle = loop ∷ [];
  arrives = (refl, refl);
  cycles = record { closes = (inl refl, refl, (refl, refl)); moves = λ e. cc; accepts = (loop, inl refl, refl); marks = λ k l. (loop, inl refl, inl (only k l)) };
}
  where
    only : (k : ℕ) → k < 1 → k ≡ 0
    only k l = omega (arith, l)

stays : (k : ℕ) → after_steps (next empty_word) k 0 ≡ 0
stays zero = refl
stays (suc k) = stays k

pub empty_violates : IsViolation automaton_e eventually empty_word
empty_violates = (empty_accepted, λ h. never h.0 (stays h.0) h.1)
  where
    never : (k : ℕ) → after_steps (next empty_word) k 0 ≡ 0 → IsTrue (is_true_at (codes "p" ∷ []) empty_word (after_steps (next empty_word) k 0) 0) → ⊥
    never k e t = false≢true (sym (ap (λ i. is_true_at (codes "p" ∷ []) empty_word i 0) e) ∙ t)

pub empty_lasso : IsLasso empty_word
empty_lasso = record { sets = rising ([] ∷ []) (tt, tt); cycles = omega arith }

abbrev check_plan : CheckerPlan
check_plan = record { formula = Given (codes "<>p"); automaton = None }

-- the checker with `-f '<>p'` on that automaton
violated_answer : CheckerAnswers stated_limits 1 (Some check_plan) NotOpened (Ended text_e) (answer (codes "violated\ncycle {}\n") [] 1)
violated_answer = (
  Ok (Violated empty_word),
  inr (
    eventually,
    inr (codes "<>p", refl, eventually_read),
    inr (
      core eventually.formula true true,
      (refl, omega arith, omega arith),
      inr (
        translation_within 1 plain_options (core eventually.formula true true),
        negated_translates,
        inr (
          text_e,
          refl,
          inr (
            automaton_e,
            reads_e,
            (omega arith, omega arith, (empty_lasso, empty_violates, (least_form_is empty_word empty_lasso).least, λ n h. absurd h)),
          ),
        ),
      ),
    ),
  ),
  refl,
)
