-- What the contract of `run` says of a run of the checker over known bytes.
use Rattle.std.proofs.Common.{◌≡◌, ◌⊎◌, subst, refl, inl, inr, true, ℕ, ◌≤◌, List, [], ◌∷◌, Option, Some, None, arith}
use Rattle.std.specs.Prelude.{Ok, codes, length, min}
use Rattle.clap.specs.Words.{Text}
use Rattle.clap.proofs.OnLiterals.{clap_on_literals}
use Rattle.ltl_spec.specs.Hoa.HoaReading.{stated_form}
use Rattle.ltl_spec.specs.Tools.Limits.{stated_limits}
use Rattle.ltl_spec.specs.Tools.Outcome.{Ended, File, Input, NotOpened, Seen}
use Rattle.ltl_spec.specs.Tools.Programs.{Claim, plain_options}
use Rattle.ltl_spec.specs.Tools.Refusal.{Checker}
use Rattle.ltl_spec.specs.Tools.Run.{AreInputs, MayShow, PrintsViolation}
use Rattle.ltl_spec.proofs.Examples.CheckTexts.{empty_lasso, empty_violates, empty_word, eventually, eventually_read}
use Rattle.ltl_spec.proofs.Examples.InputTexts.{automaton_e, program_reads_e, text_e}
use Rattle.ltl_words.specs.Words.{Request, plan_of, request_of}
use Rattle.ltl_cli.specs.Headline.{RequestMayShow, WordsMayShow}
use Rattle.ltl_cli.specs.Openings.{Opening, Opens, OpensFor, opened_for}

abbrev words : List Text
words = codes "ltlcheck" ∷ codes "-F" ∷ codes "formula" ∷ []

abbrev request : Request
request = record { formula = File (codes "formula"); automaton = None; word = None; rewrite = true; options = plain_options; layout = Claim }

words_ask : request_of Checker words ≡ Some request
unfolding clap_on_literals
words_ask = refl

-- what the program reads
read : AreInputs stated_limits stated_form (plan_of Checker (Some request)) (Ended (codes "<>p")) (Ended text_e) eventually automaton_e
read = record {
  asked = record { formula = File (codes "formula"); automaton = None };
  words = refl;
  formula = (codes "<>p", inr refl, eventually_read);
  automaton = (text_e, inr refl, program_reads_e);
}

-- a violation is reported
abbrev pub Reports : Seen → Type 0
Reports seen = seen.status ≤ 1 → (seen.status ≡ 1) × PrintsViolation automaton_e eventually seen.output

zero_or_one : (n : ℕ) → n ≤ 1 → (n ≡ 0) ⊎ (n ≡ 1)
zero_or_one ℕ.zero l = inl refl
zero_or_one (ℕ.suc ℕ.zero) l = inr refl
zero_or_one (ℕ.suc (ℕ.suc n)) l = absurd (omega (arith, l))

told : (seen : Seen) → MayShow stated_limits stated_form Checker (plan_of Checker (Some request)) (Ended (codes "<>p")) (Ended text_e) seen → Reports seen
told seen m low = elim (zero_or_one seen.status low) [
  | inl zero ↦ absurd (m.tells.contained eventually automaton_e read zero empty_word empty_lasso empty_violates)
  | inr one ↦ (one, m.tells.violated eventually automaton_e read one)
]

-- the file and the standard input

abbrev pub Stands : Text → Input → Type 0
Stands name input = (name ≡ codes "formula") × (input ≡ Ended (codes "<>p")) ⊎ ¬ (name ≡ codes "formula") × (input ≡ NotOpened)

abbrev pub Comes : Input → Type 0
Comes input = input ≡ Ended text_e

file : (input : Input) → Stands (codes "formula") input → input ≡ Ended (codes "<>p")
file input (inl h) = h.1
file input (inr h) = absurd (h.0 refl)

behind : (seen : Seen) (a b : Input) → a ≡ Ended (codes "<>p") → b ≡ Ended text_e → MayShow stated_limits stated_form Checker (plan_of Checker (Some request)) a b seen → Reports seen
behind seen a b p q m =
    told seen (subst (λ (x : Input). MayShow stated_limits stated_form Checker (plan_of Checker (Some request)) (Ended (codes "<>p")) x seen) q
    (subst (λ (x : Input). MayShow stated_limits stated_form Checker (plan_of Checker (Some request)) x b seen) p m))

shown : (seen : Seen) → RequestMayShow Stands Comes Checker (Some request) seen → Reports seen
shown seen (inl short) low = absurd (let four = short.0 in omega (arith, four, low))
shown seen (inr (a, b, (f, i), m)) low = behind seen a b (file a f) i m low

pub reported : (given : List Text) → given ≡ words → (seen : Seen) → WordsMayShow Stands Comes Checker (Ok given) seen → Reports seen
reported given same seen h =
    shown seen (subst (λ (r : Option Request). RequestMayShow Stands Comes Checker r seen) words_ask
    (subst (λ (x : List Text). RequestMayShow Stands Comes Checker (request_of Checker x) seen) same h))

-- ---- files that count what is opened

abbrev pub Counts : {F : Type 0} → (F → ℕ) → F → List Opening → Type 0
Counts count files log = count files ≡ min (length log) 18446744073709551615

module _ {F : Type 0} (count : F → ℕ) (Stood : F → Text → Input → Type 0) (Came : F → Input → Type 0) (old new : F) (none : count old ≡ 0) where
  both : Opens (Counts count) Stood Came (opened_for Checker (Some request)) old new → count new ≡ 2
  both h = h.opened [] none

  -- the file and the standard input were opened, if memory sufficed for the command line
  pub both_opened : (given : List Text) → given ≡ words → (status : ℕ) → OpensFor (Counts count) Stood Came Checker (Ok given) old new status → (count new ≡ 2) ⊎ (status ≡ 4)
  both_opened given same status (inl h) = inl (both (subst (λ (r : Option Request). Opens (Counts count) Stood Came (opened_for Checker r) old new) words_ask
      (subst (λ (x : List Text). Opens (Counts count) Stood Came (opened_for Checker (request_of Checker x)) old new) same h)))
  both_opened given same status (inr h) = inr h.1
