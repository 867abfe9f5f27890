-- Worked examples: answers of the programs.
use Rattle.std.proofs.Common.{ℕ, ◌<◌, true, false, inl, inr, List, [], ◌∷◌, length, refl, arith, Some, None}
use Rattle.std.specs.Prelude.{Ok, Err, codes}
use Rattle.std.specs.Fmt.{digits}
use Rattle.std.proofs.lemmas.Bool.{false≢true}
use Rattle.ltl_spec.specs.Semantics.Word.{Lasso}
use Rattle.ltl_spec.specs.Formulas.Formula.{Proposition, Reading}
use Rattle.ltl_spec.specs.Formulas.Fault.{IsFault, ExpectedOperand}
use Rattle.ltl_spec.specs.Words.LassoText.{IsLassoText}
use Rattle.ltl_spec.specs.Tools.Limits.{stated_limits}
use Rattle.ltl_spec.specs.Tools.Refusal.{CannotOpen, CannotRead, LongFormula, BadFormula, BadWord}
use Rattle.ltl_spec.specs.Tools.Outcome.{Answer, NotOpened, Ended, Failed, Given, File}
use Rattle.ltl_spec.specs.Tools.Programs.{Claim, TranslatorPlan, TranslatorAnswers, EvaluatorPlan, EvaluatorAnswers, ReadsFormula}
use Rattle.ltl_spec.proofs.Formulas.ReaderLaws.{verdict_reading, verdict_fault}
use Rattle.ltl_spec.proofs.Examples.InputTexts.{stem_alone}

abbrev pub answer : List ℕ → List ℕ → ℕ → Answer
answer output message status = record { output = output; message = message; status = status }

-- `-f p -F x`, and no word at all
usage_answer : TranslatorAnswers stated_limits None NotOpened (answer [] (codes "ltl2ba: usage: ltl2ba [-l] [-o] [-p] [-H | -G] (-f formula | -F file)\n") 2)
usage_answer = refl

-- `-F x`
abbrev file_plan : TranslatorPlan
file_plan = record { formula = File (codes "x"); rewrite = true; options = record { keep_implied = false; keep_equal = false }; layout = Claim }

not_opened_answer : TranslatorAnswers stated_limits (Some file_plan) NotOpened (answer [] (codes "ltl2ba: cannot open\n") 5)
not_opened_answer = (Err CannotOpen, inl (CannotOpen, inl (CannotOpen, refl, refl), refl), refl)

-- a read fails behind `p`
not_read_answer : TranslatorAnswers stated_limits (Some file_plan) (Failed (codes "p")) (answer [] (codes "ltl2ba: cannot read\n") 5)
not_read_answer = (Err CannotRead, inl (CannotRead, inl (CannotRead, refl, refl), refl), refl)

-- the text is one byte too long
long_answer : (text : List ℕ) → 65_536 < length text
    → TranslatorAnswers stated_limits (Some file_plan) (Ended text) (answer [] (codes "ltl2ba: limit: formula longer than 65536 bytes\n") 3)
unfolding digits
long_answer text l = (Err LongFormula, inl (LongFormula, inr (text, refl, l), refl), refl)

abbrev p_reading : Reading
p_reading = record { formula = Proposition 0; names = codes "p" ∷ [] }

-- an empty file
empty_fault : IsFault [] 0 ExpectedOperand
empty_fault = verdict_fault [] (0, ExpectedOperand) refl

empty_answer : TranslatorAnswers stated_limits (Some file_plan) (Ended []) (answer [] (codes "ltl2ba: formula: byte 0: expected operand\n") 3)
unfolding digits
empty_answer = (Err (BadFormula 0 ExpectedOperand), inl (BadFormula 0 ExpectedOperand, inr ([], refl, (omega arith, empty_fault)), refl), refl)

-- the evaluator with `-f p`
abbrev p_plan : List ℕ → EvaluatorPlan
p_plan word = record { formula = Given (codes "p"); word = word }

reads_p : ReadsFormula stated_limits (codes "p") (Ok p_reading)
reads_p = (omega arith, verdict_reading (codes "p") p_reading refl, omega arith)

bad_word_answer : EvaluatorAnswers stated_limits (Some (p_plan (codes "{p}"))) NotOpened (answer [] (codes "ltleval: word: byte 3: bad word\n") 3)
unfolding digits
bad_word_answer = (Err (BadWord 3), inr (p_reading, inr (codes "p", refl, reads_p), inl (BadWord 3, (omega arith, stem_alone), refl)), refl)

-- p is false in the first letter of `cycle {q}`
abbrev q_word : Lasso
q_word = record { stem = []; cycle = (codes "q" ∷ []) ∷ [] }

q_text : IsLassoText (codes "cycle {q}") q_word
q_text = record { written = q_word; propositions = refl; cycles = omega arith; spelled = refl; read = refl }

false_answer : EvaluatorAnswers stated_limits (Some (p_plan (codes "cycle {q}"))) NotOpened (answer (codes "false\n") [] 1)
false_answer = (Ok false, inr (p_reading, inr (codes "p", refl, reads_p), inr (q_word, (omega arith, q_text, λ l. omega (arith, l)), inr (refl, λ t. false≢true t))), refl)
