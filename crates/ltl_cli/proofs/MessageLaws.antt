-- Messages in parts.
use Rattle.std.proofs.Common.{◌≡◌, ◌∙◌, ◌<◌, ap, false, sym, refl, inl, inr, ℕ, List, [], ◌∷◌, ◌++◌, length, Option, Some, None, codes, append_assoc, arith}
use Rattle.std.proofs.Math.Seq.{take-length}
use Rattle.std.specs.Io.KnownBytes.{Appends, Keeps}
use Rattle.std.proofs.lemmas.List.{append-nil}
use Rattle.std.proofs.lemmas.Result.{on_err_weaker, on_ok_weaker}
use Rattle.std.specs.Prelude.{MatchResult, OnOk, OnErr, Result, Ok, Err}
use Rattle.std.specs.Fmt.{decimal, digits}
use Rattle.ltl_spec.specs.Hoa.HoaFaultKind.{hoa_fault_text}
use Rattle.ltl_spec.specs.Tools.Limits.{stated_limits}
use Rattle.ltl_spec.specs.Tools.Refusal.{Tool, Translator, Checker, Evaluator, Refusal, Usage, CannotOpen, CannotRead, CannotWrite, OutOfMemory, LongFormula, TooManyPropositions, TooManyRows, TooManyElementaryRows, LargeAutomaton, LongWord, LargeProduct, BadFormula, BadWord, BadAutomaton, fault_text, message, refusal_text, tool_name}
use Rattle.ltl_streams.specs.Streams.{Breaks, Fails, Flushes, SinkState, Takes}
use Rattle.ltl_streams.specs.declared.printer.Printer.{Printer}
use Rattle.ltl_streams.specs.Printing.{EndsShort, EndsWhole, Prints}
use Rattle.ltl_streams.proofs.PrintLaws.{all_printed, some_printed}
use Rattle.ltl_streams.proofs.StreamLemmas.{breaks_there}
use Rattle.ltl_cli.specs.Runs.{Finishes, IsTold}
use Rattle.ltl_cli.specs.Messages.{back_text, front_text, number_in, number_text}

regrouped : (front : List ℕ) (n : ℕ) (back : List ℕ) → front ++ number_text (Some n) ++ back ≡ front ++ decimal n ++ codes ": " ++ back
regrouped front n back = ap (λ x. x ++ back) (sym (append_assoc front (decimal n) (codes ": ")))

-- the parts make the text
pub parts_are : (tool : Tool) (r : Refusal) → front_text tool r ++ number_text (number_in r) ++ back_text r ≡ refusal_text stated_limits tool r
parts_are tool (BadFormula place kind) = regrouped (codes "formula: byte ") place (fault_text kind)
parts_are tool (BadWord place) = regrouped (codes "word: byte ") place (codes "bad word") ∙ append_assoc (codes "word: byte " ++ decimal place) (codes ": ") (codes "bad word")
parts_are tool (BadAutomaton number kind) = regrouped (codes "automaton: line ") number (hoa_fault_text kind)
parts_are tool Usage = append-nil _ ∙ append-nil _
parts_are tool CannotOpen = append-nil _ ∙ append-nil _
parts_are tool CannotRead = append-nil _ ∙ append-nil _
parts_are tool CannotWrite = append-nil _ ∙ append-nil _
parts_are tool OutOfMemory = append-nil _ ∙ append-nil _
parts_are tool LongFormula = append-nil _ ∙ append-nil _
parts_are tool TooManyPropositions = append-nil _ ∙ append-nil _
parts_are tool TooManyRows = append-nil _ ∙ append-nil _
parts_are tool TooManyElementaryRows = append-nil _ ∙ append-nil _
parts_are tool LargeAutomaton = append-nil _ ∙ append-nil _
parts_are tool LongWord = append-nil _ ∙ append-nil _
parts_are tool LargeProduct = append-nil _ ∙ append-nil _

kept_behind : (o m n : Option (List ℕ)) (a : List ℕ) → Appends o m a → Keeps m n → Appends o n a
kept_behind None m n a p q = tt
kept_behind (Some x) (Some y) (Some z) a p q = q ∙ p
kept_behind (Some x) (Some y) None a p q = q
kept_behind (Some x) None n a p q = absurd p

-- a flush behind the last byte

finishes : (o m n : SinkState) (a : List ℕ) → Takes o m a → Flushes m n → Finishes o n a
finishes o m n a p q = record { same = q.same ∙ p.same; stage = λ e. q.stage; grown = kept_behind o.bytes m.bytes n.bytes a p.grown q.kept }

pub flushes_all : {T E : Type 0} (r : Result T E) (m n : SinkState) → MatchResult r (λ _. Flushes m n) (λ _. Fails m n) → OnOk r ((o : SinkState) (a : List ℕ) → Takes o m a → Finishes o n a)
flushes_all (Ok x) m n q = λ o a p. finishes o m n a p q
flushes_all (Err e) m n q = tt

pub flush_fails : {T E : Type 0} (r : Result T E) (m n : SinkState) → MatchResult r (λ _. Flushes m n) (λ _. Fails m n)
    → OnErr r ((o : SinkState) (a : List ℕ) → Takes o m a → Unit {0} → Breaks o n a)
flush_fails (Ok x) m n q = tt
flush_fails (Err e) m n q = λ o a p t. breaks_there a (length a) (rw (take-length a) p) q

-- what `flushed` ensures, for one text
module _ {T E : Type 0} (r s : Result T E) (o m n : SinkState) (a : List ℕ) where
  pub ended_whole : OnOk r ((o : SinkState) (a : List ℕ) → OnOk s (Takes o m a) → Finishes o n a) → OnOk s (Takes o m a) → OnOk r (Finishes o n a)
  ended_whole p whole = on_ok_weaker r (λ f. f o a whole) p

  pub ended_short : OnErr r ((o : SinkState) (a : List ℕ) → OnOk s (Takes o m a) → OnErr s (Breaks o m a) → Breaks o n a) → OnOk s (Takes o m a) → OnErr s (Breaks o m a) → OnErr r (Breaks o n a)
  ended_short p whole short = on_err_weaker r (λ f. f o a whole short) p

-- a printer's text as a message: all of it went out, or a beginning
module _ {S : Type 0} {state : S → SinkState} {w : List ℕ} {u v s : S} {o m : Printer S} (long : 0 < length w) (whole : o.failed ≡ false) (empty : o.buffer ≡ []) (now : o.sink.now ≡ s) (p : Prints state o m w) where
  pub printed_told : {T E : Type 0} (r : Result T E) → MatchResult r (λ _. EndsWhole m.failed (state m.sink.now) m.buffer (state u)) (λ _. EndsShort m.failed (state m.sink.now) m.buffer (state u)) → u ≡ v → IsTold (state s) (state v) w
  printed_told (Ok x) q e = inl (all_printed whole empty now p q e)
  printed_told (Err x) q e = inr (long, some_printed whole empty now p q e)

-- a line has a byte
pub line_long : (tool : Tool) (r : Refusal) → 0 < length (message stated_limits tool r)
line_long Translator r = omega arith
line_long Checker r = omega arith
line_long Evaluator r = omega arith

-- a number and a colon
pub number_same : (o : Option ℕ) (n : ℕ) (d : List ℕ) → o ≡ Some n → d ≡ decimal n → d ++ codes ": " ≡ number_text o
number_same o n d e f = ap (λ x. x ++ codes ": ") f ∙ ap number_text (sym e)

-- the parts that were put make the text
pub put_same : (tool : Tool) (r : Refusal) (a : List ℕ) (n : Option ℕ) (b : List ℕ) → a ≡ front_text tool r → n ≡ number_in r → b ≡ back_text r
    → a ++ number_text n ++ b ≡ refusal_text stated_limits tool r
put_same tool r a n b p q h = rw (p, q, h) (parts_are tool r)

-- and so does the line
pub line_same : (tool : Tool) (r : Refusal) (a : List ℕ) → a ≡ tool_name tool ++ codes ": " → a ++ refusal_text stated_limits tool r ++ 10 ∷ [] ≡ message stated_limits tool r
line_same tool r a p = ap (λ w. w ++ refusal_text stated_limits tool r ++ 10 ∷ []) p

-- the texts with a limit in them

pub long_formula : (tool : Tool) → front_text tool LongFormula ≡ codes "limit: formula longer than 65536 bytes"
unfolding digits
long_formula tool = refl

pub long_word : (tool : Tool) → front_text tool LongWord ≡ codes "limit: word longer than 65536 bytes"
unfolding digits
long_word tool = refl

pub many_propositions : (tool : Tool) → front_text tool TooManyPropositions ≡ codes "limit: more than 256 propositions"
unfolding digits
many_propositions tool = refl

pub many_rows : (tool : Tool) → front_text tool TooManyRows ≡ codes "limit: more than 4096 rows"
unfolding digits
many_rows tool = refl

pub many_elementary_rows : (tool : Tool) → front_text tool TooManyElementaryRows ≡ codes "limit: more than 256 elementary rows"
unfolding digits
many_elementary_rows tool = refl
