-- What was read, as an input of the definitions.
use Rattle.std.proofs.Common.{◌≡◌, ◌∙◌, ap, sym, subst, refl, ℕ, ◌+◌, ◌<◌, ◌≤◌, nat_lt, Bool, true, false, cond, inl, inr, ◌⊎◌, List, [], length, take, Option, Some, None, arith, length-take}
use Rattle.std.proofs.Math.Seq.{take-append_seam}
use Rattle.std.proofs.lemmas.Bool.{cases_lt}
use Rattle.std.proofs.lemmas.List.{take_all}
use Rattle.std.specs.Prelude.{IfSome, IsErrOf, Result, Ok, Err}
use Rattle.std.specs.Io.KnownBytes.{Consumes}
use Rattle.ltl_spec.specs.Formulas.Formula.{Reading}
use Rattle.ltl_spec.specs.Tools.Limits.{stated_limits}
use Rattle.ltl_spec.specs.Tools.Refusal as spec
use Rattle.ltl_spec.specs.Tools.Outcome as outcome
use Rattle.ltl_spec.specs.Tools.Programs.{InputReads, ReadsFormula}
use Rattle.ltl_spec.specs.Tools.Stage.{Open}
use Rattle.ltl_streams.specs.Streams.{SourceState}
use Rattle.ltl_syntax.specs.FormulaView.{FormulaView, reading_of}
use Rattle.ltl_syntax.specs.ReadText.{IsRefusedFor}
use Rattle.ltl_syntax.specs.declared.fault.ReadFault.{ReadFault}
use Rattle.ltl_syntax.specs.declared.fault.ReadFault.TheVariants as fault
use Rattle.ltl_cli.specs.declared.source.Source.{Source}
use Rattle.ltl_cli.specs.declared.source.Source.TheVariants as source
use Rattle.ltl_cli.specs.declared.refusal.Refusal.{Refusal}
use Rattle.ltl_cli.specs.declared.refusal.Refusal.TheVariants.{OutOfMemory, CannotRead}
use Rattle.ltl_words.specs.declared.request.FormulaWord.{FormulaWord}
use Rattle.ltl_words.specs.Plans.{formula_word}
use Rattle.ltl_cli.specs.Refusals.{of_read, refusal_of}
use Rattle.ltl_cli.specs.Inputs.{GivesBytesOf, IsFailed, IsInputOf, IsOpen, IsReadFrom, IsStream, IsUnread, RefusesInput, TakesFewer, TakesUpTo, WasInput, WasStream, WentWell, most_taken}
use Rattle.ltl_spec.proofs.Tools.StepLaws.{never, then_ok}
use Rattle.ltl_cli.proofs.StreamLaws.{stayed}

-- a text is refused as the definitions say
pub given_refused : (text : List ℕ) (e : ReadFault) → IsRefusedFor text e → RefusesInput (outcome.Given text) outcome.NotOpened (of_read e)
given_refused text fault.TooLong h = inr (inr (text, refl, h))
given_refused text (fault.AtByte place kind) h = inr (inr (text, refl, h))
given_refused text fault.TooManyPropositions h = inr (inr (text, refl, h))
given_refused text fault.OutOfMemory h = inl (refl, λ m. absurd (omega (arith, h, m)))

ok_is : {A B : Type 0} (a b : A) → ◌≡◌ {A = Result A B} (Ok a) (Ok b) → a ≡ b
ok_is a b e = cc

-- the first 65,537 bytes are all of them, or both are too long
same_or_long : (v xs : List ℕ) → v ≡ take most_taken xs → (v ≡ xs) ⊎ (stated_limits.formula_bytes < length v) × (stated_limits.formula_bytes < length xs)
same_or_long v xs e = elim (cases_lt stated_limits.formula_bytes (length xs)) [
  | inl l ↦ inr (subst (λ (w : List ℕ). stated_limits.formula_bytes < length w) (sym e) (rw (length-take most_taken xs) (omega arith)), l)
  | inr l ↦ inl (e ∙ take_all most_taken xs (omega arith))
]

-- a text that is too long is refused for that, whatever it is
long_reads : (v xs : List ℕ) → stated_limits.formula_bytes < length v → stated_limits.formula_bytes < length xs → (r : Result Reading spec.Refusal) → ReadsFormula stated_limits v r → ReadsFormula stated_limits xs r
long_reads v xs l m (Ok R) h = absurd (omega (arith, l, h.0))
long_reads v xs l m (Err spec.LongFormula) h = m
long_reads v xs l m (Err (spec.BadFormula place kind)) h = absurd (omega (arith, l, h.0))
long_reads v xs l m (Err spec.TooManyPropositions) h = absurd (omega (arith, l, h.0))
long_reads v xs l m (Err spec.Usage) h = absurd h
long_reads v xs l m (Err spec.CannotOpen) h = absurd h
long_reads v xs l m (Err spec.CannotRead) h = absurd h
long_reads v xs l m (Err spec.CannotWrite) h = absurd h
long_reads v xs l m (Err spec.OutOfMemory) h = absurd h
long_reads v xs l m (Err spec.TooManyRows) h = absurd h
long_reads v xs l m (Err spec.TooManyElementaryRows) h = absurd h
long_reads v xs l m (Err spec.LargeAutomaton) h = absurd h
long_reads v xs l m (Err spec.LongWord) h = absurd h
long_reads v xs l m (Err spec.LargeProduct) h = absurd h
long_reads v xs l m (Err (spec.BadWord place)) h = absurd h
long_reads v xs l m (Err (spec.BadAutomaton number kind)) h = absurd h

-- the formula of a text that is known
pub text_reads : (v : List ℕ) (r : Result Reading spec.Refusal) → InputReads stated_limits (outcome.Text v) r → ReadsFormula stated_limits v r
text_reads v r (inl (e, p, q)) = absurd (never v e p)
text_reads v r (inr (a, p, h)) = subst (λ (w : List ℕ). ReadsFormula stated_limits w r) (ok_is a v p) h

reads_from : (v xs : List ℕ) → v ≡ take most_taken xs → (r : Result Reading spec.Refusal) → InputReads stated_limits (outcome.Text v) r → InputReads stated_limits (outcome.Ended xs) r
reads_from v xs e r h = inr (
  xs,
  refl,
  elim (same_or_long v xs e) [
    | inl s ↦ subst (λ (w : List ℕ). ReadsFormula stated_limits w r) s (text_reads v r h)
    | inr l ↦ long_reads v xs l.0 l.1 r (text_reads v r h)
  ],
)

file_read : (v xs : List ℕ) → v ≡ take most_taken xs → (r : Result FormulaView Refusal) → IsReadFrom (outcome.Given v) outcome.NotOpened r → IsReadFrom (outcome.File []) (outcome.Ended xs) r
file_read v xs e (Ok f) h = reads_from v xs e (Ok (reading_of f)) h
file_read v xs e (Err x) (inl p) = inl (p.0, λ z. z)
file_read v xs e (Err x) (inr h) = inr (reads_from v xs e (Err (refusal_of x)) h)

file_same : (v : List ℕ) (r : Result FormulaView Refusal) → IsReadFrom (outcome.Given v) outcome.NotOpened r → IsReadFrom (outcome.File []) (outcome.Ended v) r
file_same v (Ok f) h = h
file_same v (Err x) (inl p) = inl (p.0, λ z. z)
file_same v (Err x) (inr h) = inr h

-- what was read from a file's bytes
file_known : (known : Option (List ℕ)) (v : List ℕ) (r : Result FormulaView Refusal) → IfSome known (λ xs. v ≡ take most_taken xs)
    → IsReadFrom (outcome.Given v) outcome.NotOpened r → (bs : List ℕ) × IfSome known (λ xs. bs ≡ xs) × IsReadFrom (outcome.File []) (outcome.Ended bs) r
file_known None v r e h = (v, tt, file_same v r h)
file_known (Some xs) v r e h = (xs, refl, file_read v xs e r h)

pub file_from : (old new : SourceState) (v : List ℕ) (r : Result FormulaView Refusal) → IfSome old.rest (λ xs. v ≡ take most_taken xs) → WentWell most_taken old new
    → IsReadFrom (outcome.Given v) outcome.NotOpened r → (input : outcome.Input) × WasStream most_taken old new input × IsReadFrom (outcome.File []) input r
file_from old new v r e well h =
    let (bs, same, reads) = file_known old.rest v r e h in
    (outcome.Ended bs, (same, well), reads)

-- all bytes of a stream, where they are known
some_bytes : (known : Option (List ℕ)) → (bs : List ℕ) × IfSome known (λ xs. bs ≡ xs)
some_bytes None = ([], tt)
some_bytes (Some xs) = (xs, refl)

-- memory was refused while it was read
short_file : (old new : SourceState) → WentWell most_taken old new → (input : outcome.Input) × WasStream most_taken old new input × RefusesInput (outcome.File []) input OutOfMemory
short_file old new well =
    let (bs, same) = some_bytes old.rest in
    (outcome.Ended bs, (same, well), inl (refl, λ z. z))

-- a list that isn't longer than the limit
pub not_long : (n : ℕ) (bs : List ℕ) → length bs < n + 1 → nat_lt n (length bs) ≡ false
not_long n bs l = grind (arith, l)

few_failed : (bs : List ℕ) → length bs < most_taken → RefusesInput (outcome.File []) (outcome.Failed bs) CannotRead
few_failed bs l = inr (inl (spec.CannotRead, rw (not_long stated_limits.formula_bytes bs l) refl, refl))

-- there is no text
pub file_refused : (old new : SourceState) (e : Refusal) → IsUnread most_taken old new e → (input : outcome.Input) × WasStream most_taken old new input × RefusesInput (outcome.File []) input e
file_refused old new e (inl (c, (bs, w))) = (outcome.Failed bs, w, subst (RefusesInput (outcome.File []) (outcome.Failed bs)) (sym c) (few_failed bs w.few))
file_refused old new e (inr (c, well)) =
    let (input, s, h) = short_file old new well in
    (input, s, subst (RefusesInput (outcome.File []) input) (sym c) h)

-- a read failed, and so fewer bytes were taken
not_memory : CannotRead ≡ OutOfMemory → ⊥
not_memory c = cc

unread_few : (old new : SourceState) → IsUnread most_taken old new CannotRead → TakesFewer old.rest new.rest most_taken
unread_few old new (inl (c, (bs, w))) = (bs, w.taken, w.few)
unread_few old new (inr (c, well)) = absurd (not_memory c)

pub failed_few : (old new : SourceState) (e : Refusal) → IsUnread most_taken old new e → e ≡ CannotRead → TakesFewer old.rest new.rest most_taken
failed_few old new e u c = unread_few old new (subst (IsUnread most_taken old new) c u)

-- a source that isn't read is some input, of which no read failed
module _ (most : ℕ) {R : Type 0} (state : R → SourceState) where
  unread_stream : (o : SourceState) → o.stage ≡ Open → (input : outcome.Input) × WasStream most o o input × ¬ (IsFailed input)
  unread_stream o e =
      let (bs, same) = some_bytes o.rest in
      (outcome.Ended bs, (same, stayed most o e), λ z. z)

  pub unread_whole : (s : Source R) → IsOpen state s → (input : outcome.Input) × WasInput most state s s input × ¬ (IsFailed input)
  unread_whole source.Text o = (outcome.NotOpened, refl, λ z. z)
  unread_whole source.NotOpened o = (outcome.NotOpened, refl, λ z. z)
  unread_whole (source.Input r) o = unread_stream (state r) o

  pub unread : (s : Source R) → IsOpen state s → (input : outcome.Input) × WasInput most state s s input
  unread s o =
      let (input, was, whole) = unread_whole s o in
      (input, was)

-- ---- readers of which nobody knows how the calls on them went

consumed_beginning : (old new : Option (List ℕ)) (bs : List ℕ) → Consumes old new bs → IsStream old (outcome.Failed bs)
consumed_beginning None new bs p = tt
consumed_beginning (Some xs) (Some ys) bs p = (length bs, sym (ap (take (length bs)) p ∙ take-append_seam bs ys))
consumed_beginning (Some xs) None bs p = absurd p

known_whole : (known : Option (List ℕ)) (bs : List ℕ) → IfSome known (λ xs. bs ≡ xs) → IsStream known (outcome.Ended bs)
known_whole None bs e = tt
known_whole (Some xs) bs e = e

stream_before : (most : ℕ) (old new : SourceState) (input : outcome.Input) → WasStream most old new input → IsStream old.rest input
stream_before most old new (outcome.Ended bs) w = known_whole old.rest bs w.0
stream_before most old new (outcome.Failed bs) w = consumed_beginning old.rest new.rest bs w.taken
stream_before most old new (outcome.Text bs) w = absurd w
stream_before most old new outcome.NotOpened w = absurd w

pub lent_before : (most : ℕ) (old new : SourceState) (known : Option (List ℕ)) (input : outcome.Input) → old.rest ≡ known → WasStream most old new input → IsStream known input
lent_before most old new known input e w = subst (λ (x : Option (List ℕ)). IsStream x input) e (stream_before most old new input w)

-- some bytes that a reader holds
pub some_input : {R : Type 0} (remaining : R → Option (List ℕ)) (s : Source R) → (input : outcome.Input) × IsInputOf remaining s input
some_input remaining source.Text = (outcome.NotOpened, refl)
some_input remaining source.NotOpened = (outcome.NotOpened, refl)
some_input remaining (source.Input r) =
    let (bs, same) = some_bytes (remaining r) in
    (outcome.Ended bs, known_whole (remaining r) bs same)

module _ {R S : Type 0} (remaining : R → Option (List ℕ)) (state : S → SourceState) where
  -- how the bytes were read tells what they were
  pub input_before : (most : ℕ) (s : Source R) (old new : Source S) (input : outcome.Input) → GivesBytesOf remaining state s old → WasInput most state old new input → IsInputOf remaining s input
  input_before most source.Text source.Text source.Text input g w = w
  input_before most (source.Input r) (source.Input o) (source.Input n) input g w = subst (λ (x : Option (List ℕ)). IsStream x input) g.0 (stream_before most (state o) (state n) input w)
  input_before most source.NotOpened source.NotOpened source.NotOpened input g w = w
  input_before most source.Text source.Text (source.Input n) input g w = absurd w
  input_before most source.Text source.Text source.NotOpened input g w = absurd w
  input_before most source.Text (source.Input o) new input g w = absurd g
  input_before most source.Text source.NotOpened new input g w = absurd g
  input_before most (source.Input r) source.Text new input g w = absurd g
  input_before most (source.Input r) source.NotOpened new input g w = absurd g
  input_before most (source.Input r) (source.Input o) source.Text input g w = absurd w
  input_before most (source.Input r) (source.Input o) source.NotOpened input g w = absurd w
  input_before most source.NotOpened source.Text new input g w = absurd g
  input_before most source.NotOpened (source.Input o) new input g w = absurd g
  input_before most source.NotOpened source.NotOpened source.Text input g w = absurd w
  input_before most source.NotOpened source.NotOpened (source.Input n) input g w = absurd w

  pub gives_open : (s : Source R) (old : Source S) → GivesBytesOf remaining state s old → IsOpen state old
  gives_open s source.Text g = tt
  gives_open s source.NotOpened g = tt
  gives_open source.Text (source.Input o) g = absurd g
  gives_open (source.Input r) (source.Input o) g = g.1
  gives_open source.NotOpened (source.Input o) g = absurd g

-- at most so many bytes were taken
pub stream_few : (most : ℕ) (old new : SourceState) (input : outcome.Input) → WasStream most old new input → TakesUpTo old.rest new.rest most
stream_few most old new (outcome.Ended bs) w = w.1.taken
stream_few most old new (outcome.Failed bs) w = let l = w.few in (bs, w.taken, omega (arith, l))
stream_few most old new (outcome.Text bs) w = absurd w
stream_few most old new outcome.NotOpened w = absurd w

-- an input with a text that isn't too long is not at fault
module _ (most : ℕ) (text : List ℕ) (fits : length text ≤ most) where
  whole : (b : Bool) (bs : List ℕ) → nat_lt most (length bs) ≡ b → Ok text ≡ cond b (Ok bs) (Err spec.CannotRead) → ⊥
  whole true bs e q =
      let short = not_long most bs (let same = ap length (ok_is text bs q) in omega (arith, same, fits)) in
      cc
  whole false bs e q = never text spec.CannotRead (sym q)

  pub not_at_fault : (input : outcome.Input) → Ok text ≡ outcome.taken most input → ¬ (outcome.IsAtFault input)
  not_at_fault (outcome.Text bs) q = λ z. z
  not_at_fault outcome.NotOpened q = λ z. never text spec.CannotOpen (sym q)
  not_at_fault (outcome.Ended bs) q = λ z. z
  not_at_fault (outcome.Failed bs) q = λ z. whole (nat_lt most (length bs)) bs refl q

-- where a formula was read, memory may have run out
pub reads_takes : (word : outcome.FormulaWord) (input : outcome.Input) (R : Reading) → InputReads stated_limits (outcome.input_of word input) (Ok R)
    → ¬ (outcome.IsNeverShort stated_limits.formula_bytes (Some word) input)
reads_takes (outcome.Given text) input R h = λ m. absurd (omega (arith, m, (text_reads text (Ok R) h).0))
reads_takes (outcome.File name) input R h =
    let (text, q, reads) = then_ok (λ r. r ≡ outcome.taken stated_limits.formula_bytes input) (ReadsFormula stated_limits) R h in
    not_at_fault stated_limits.formula_bytes text reads.0 input q

-- the same words read as the same formula, and are refused for the same
pub read_same : (w v : FormulaWord) → w ≡ v → (input : outcome.Input) (R : Reading) → InputReads stated_limits (outcome.input_of (formula_word w) input) (Ok R)
    → InputReads stated_limits (outcome.input_of (formula_word v) input) (Ok R)
read_same w v q input R = subst (λ (x : FormulaWord). InputReads stated_limits (outcome.input_of (formula_word x) input) (Ok R)) q

pub refused_same : (w v : FormulaWord) → w ≡ v → (input : outcome.Input) (e : Refusal) → RefusesInput (formula_word w) input e → RefusesInput (formula_word v) input e
refused_same w v q input e = subst (λ (x : FormulaWord). RefusesInput (formula_word x) input e) q

-- a text that is known is never refused for a read
pub given_readable : (text : List ℕ) (input : outcome.Input) {A : Type 0} (r : Result FormulaView Refusal) → IsReadFrom (outcome.Given text) input r → IsErrOf r CannotRead → A
given_readable text input r h e = absurd (closed (subst (IsReadFrom (outcome.Given text) input) e h))
  where
    closed : IsReadFrom (outcome.Given text) input (Err CannotRead) → ⊥
    closed (inl (m, t)) = cc
    closed (inr h) = text_reads text (Err spec.CannotRead) h
