-- What was read of an automaton's text, and what it says of the whole text.
use Rattle.std.proofs.Common.{◌≡◌, ◌∙◌, ◌⊎◌, ap, sym, subst, refl, ℕ, ◌<◌, inl, inr, List, [], length, take, Option, Some, None, arith, length-take}
use Rattle.std.proofs.lemmas.Bool.{cases_lt, lt-ltb}
use Rattle.std.proofs.lemmas.List.{take-take, take_all}
use Rattle.std.specs.Prelude.{fold, if◌then◌else◌, IfSome, Result, Ok, Err}
use Rattle.ltl_spec.specs.Hoa.HoaFault.{fault_after, fault_at, hoa_fault, take_item}
use Rattle.ltl_spec.specs.Hoa.HoaFaultKind.{LimitPassed}
use Rattle.ltl_spec.specs.Hoa.HoaPlace.{before_all}
use Rattle.ltl_spec.specs.Hoa.HoaReading.{stated_form}
use Rattle.ltl_spec.specs.Hoa.HoaToken.{hoa_items, last_line}
use Rattle.ltl_spec.specs.Tools.Limits.{stated_limits}
use Rattle.ltl_spec.specs.Tools.Outcome as outcome
use Rattle.ltl_spec.specs.Tools.Programs.{RefusesHoa}
use Rattle.ltl_spec.specs.Tools.Refusal as spec
use Rattle.ltl_spec.proofs.Tools.StepLaws.{then_ok}
use Rattle.ltl_streams.specs.Streams.{SourceState}
use Rattle.ltl_pictures.specs.NamedAutomaton.{NamedAutomaton}
use Rattle.ltl_cli.specs.declared.refusal.Refusal.{Refusal}
use Rattle.ltl_cli.specs.Inputs.{IsFailed, IsFoundUnless, IsUnread, RefusesUnless, WasStream, WentWell, most_of_automaton}
use Rattle.ltl_cli.specs.Refusals.{TakesStep, refusal_of}
use Rattle.ltl_cli.proofs.InputLaws.{not_at_fault, not_long}
use Rattle.ltl_draw.specs.Runs.{ReadsNamed, ReadsNamedText}

-- ---- a text of which no more is read than one byte past the limit

-- the fault of a text that is too long stands in its first bytes
long_fault : (text : List ℕ) → stated_limits.hoa_bytes < length text → hoa_fault stated_limits stated_form text ≡ fault_at LimitPassed (last_line (take stated_limits.hoa_bytes text))
long_fault text l =
    ap (λ t. if t then fault_at LimitPassed (last_line (take stated_limits.hoa_bytes text)) else fault_after stated_limits stated_form text (fold (take_item stated_limits stated_form text) (Ok before_all) (hoa_items text)))
    (lt-ltb stated_limits.hoa_bytes (length text) l)

module _ (v xs : List ℕ) (beginning : v ≡ take most_of_automaton xs) where
  -- these bytes are the text, or both are too long
  same_or_long : (v ≡ xs) ⊎ (stated_limits.hoa_bytes < length v) × (stated_limits.hoa_bytes < length xs)
  same_or_long = elim (cases_lt stated_limits.hoa_bytes (length xs)) [
    | inl l ↦ inr (subst (λ (w : List ℕ). stated_limits.hoa_bytes < length w) (sym beginning) (rw (length-take most_of_automaton xs) (omega arith)), l)
    | inr l ↦ inl (beginning ∙ take_all most_of_automaton xs (omega arith))
  ]

  module _ (long : stated_limits.hoa_bytes < length v) (longer : stated_limits.hoa_bytes < length xs) where
    same_fault : hoa_fault stated_limits stated_form v ≡ hoa_fault stated_limits stated_form xs
    same_fault =
        long_fault v long
        ∙ ap (λ (t : List ℕ). fault_at LimitPassed (last_line t)) (ap (take stated_limits.hoa_bytes) beginning ∙ take-take stated_limits.hoa_bytes most_of_automaton xs (omega arith))
        ∙ sym (long_fault xs longer)

    long_refused : (e : spec.Refusal) → RefusesHoa stated_limits stated_form v e → RefusesHoa stated_limits stated_form xs e
    long_refused (spec.BadAutomaton number kind) h = sym same_fault ∙ h
    long_refused spec.Usage h = h
    long_refused spec.CannotOpen h = h
    long_refused spec.CannotRead h = h
    long_refused spec.CannotWrite h = h
    long_refused spec.OutOfMemory h = h
    long_refused spec.LongFormula h = h
    long_refused spec.TooManyPropositions h = h
    long_refused spec.TooManyRows h = h
    long_refused spec.TooManyElementaryRows h = h
    long_refused spec.LargeAutomaton h = h
    long_refused spec.LongWord h = h
    long_refused spec.LargeProduct h = h
    long_refused (spec.BadFormula place kind) h = h
    long_refused (spec.BadWord place) h = h

    long_reads : (r : Result NamedAutomaton spec.Refusal) → ReadsNamedText v r → ReadsNamedText xs r
    long_reads (Ok N) h = absurd (let w = h.0.within.bytes in omega (arith, long, w))
    long_reads (Err e) h = long_refused e h

  -- they are answered as the whole text is
  beginning_reads : (r : Result NamedAutomaton spec.Refusal) → ReadsNamedText v r → ReadsNamedText xs r
  beginning_reads r h = elim same_or_long [
    | inl s ↦ subst (λ (t : List ℕ). ReadsNamedText t r) s h
    | inr l ↦ long_reads l.0 l.1 r h
  ]

-- the same of an input that ends
ended_reads : (v xs : List ℕ) → v ≡ take most_of_automaton xs → (r : Result NamedAutomaton Refusal) → TakesStep (ReadsNamedText v) (λ N. N) r → IsFoundUnless (IsFailed (outcome.Ended xs)) (ReadsNamed (outcome.Ended xs)) (λ N. N) r
ended_reads v xs e (Ok N) h = inr (xs, refl, beginning_reads v xs e (Ok N) h)
ended_reads v xs e (Err f) (inl m) = inl (m, λ z. z)
ended_reads v xs e (Err f) (inr h) = inr (inr (xs, refl, beginning_reads v xs e (Err (refusal_of f)) h))

whole_reads : (v : List ℕ) (r : Result NamedAutomaton Refusal) → TakesStep (ReadsNamedText v) (λ N. N) r → IsFoundUnless (IsFailed (outcome.Ended v)) (ReadsNamed (outcome.Ended v)) (λ N. N) r
whole_reads v (Ok N) h = inr (v, refl, h)
whole_reads v (Err f) (inl m) = inl (m, λ z. z)
whole_reads v (Err f) (inr h) = inr (inr (v, refl, h))

-- and of a stream, whose bytes may be known
stream_reads : (known : Option (List ℕ)) (v : List ℕ) (r : Result NamedAutomaton Refusal) → IfSome known (λ xs. v ≡ take most_of_automaton xs) → TakesStep (ReadsNamedText v) (λ N. N) r
    → (bs : List ℕ) × IfSome known (λ xs. bs ≡ xs) × IsFoundUnless (IsFailed (outcome.Ended bs)) (ReadsNamed (outcome.Ended bs)) (λ N. N) r
stream_reads None v r e h = (v, tt, whole_reads v r h)
stream_reads (Some xs) v r e h = (xs, refl, ended_reads v xs e r h)

pub named_found : (old new : SourceState) (v : List ℕ) (r : Result NamedAutomaton Refusal) → IfSome old.rest (λ xs. v ≡ take most_of_automaton xs) → WentWell most_of_automaton old new → TakesStep (ReadsNamedText v) (λ N. N) r
    → (input : outcome.Input) × WasStream most_of_automaton old new input × IsFoundUnless (IsFailed input) (ReadsNamed input) (λ N. N) r
named_found old new v r e well h =
    let (bs, same, found) = stream_reads old.rest v r e h in
    (outcome.Ended bs, (same, well), found)

-- where an automaton was read, no read failed
failed_fault : (input : outcome.Input) → IsFailed input → outcome.IsAtFault input
failed_fault (outcome.Failed bs) f = f
failed_fault (outcome.Text bs) f = absurd f
failed_fault outcome.NotOpened f = absurd f
failed_fault (outcome.Ended bs) f = absurd f

pub read_whole : (input : outcome.Input) (N : NamedAutomaton) → ReadsNamed input (Ok N) → ¬ (IsFailed input)
read_whole input N h f =
    let (text, q, reads) = then_ok (λ r. r ≡ outcome.taken stated_limits.hoa_bytes input) ReadsNamedText N h in
    not_at_fault stated_limits.hoa_bytes text reads.0.within.bytes input q (failed_fault input f)

-- ---- a stream that wasn't read to its end

few_failed : (bs : List ℕ) → length bs < most_of_automaton → ReadsNamed (outcome.Failed bs) (Err spec.CannotRead)
few_failed bs l = inl (spec.CannotRead, rw (not_long stated_limits.hoa_bytes bs l) refl, refl)

some_bytes : (known : Option (List ℕ)) → (bs : List ℕ) × IfSome known (λ xs. bs ≡ xs)
some_bytes None = ([], tt)
some_bytes (Some xs) = (xs, refl)

pub named_unread : (old new : SourceState) (e : Refusal) → IsUnread most_of_automaton old new e
    → (input : outcome.Input) × WasStream most_of_automaton old new input × RefusesUnless (IsFailed input) (ReadsNamed input) e
named_unread old new e (inl (c, (bs, w))) = (outcome.Failed bs, w, inr (subst (λ (x : Refusal). ReadsNamed (outcome.Failed bs) (Err (refusal_of x))) (sym c) (few_failed bs w.few)))
named_unread old new e (inr (c, well)) =
    let (bs, same) = some_bytes old.rest in
    (outcome.Ended bs, (same, well), inl (c, λ z. z))
