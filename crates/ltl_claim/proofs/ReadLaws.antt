-- The answer to a text, by what its parser comes to.
use Rattle.std.proofs.Common.{◌≡◌, ◌∙◌, ℕ, ◌<◌, ◌≤◌, Bool, true, false, List, [], ◌∷◌, length, Option, Some, None, refl, sym, ap, subst, arith}
use Rattle.std.specs.Prelude.{Result, Ok, Err, if◌then◌else◌, unwrap_or}
use Rattle.std.specs.List.{list_all}
use Rattle.std.proofs.lemmas.Bool.{lt-ltb, le-ltb}
use Rattle.ltl_spec.specs.Semantics.Word.{Name}
use Rattle.ltl_spec.specs.Formulas.Names.{is_proposition}
use Rattle.ltl_spec.specs.Claims.ClaimProgram.{Program}
use Rattle.ltl_spec.specs.Claims.ClaimMachine.{Sofar, at_first, is_label}
use Rattle.ltl_claim.specs.declared.fault.ClaimFault.{ClaimFault}
use Rattle.ltl_claim.specs.declared.fault.ClaimFault.TheVariants.{At, CannotRead, OutOfMemory}
use Rattle.ltl_claim.specs.declared.fault.ClaimFaultKind as codes
use Rattle.ltl_claim.specs.declared.token.Token.{Token}
use Rattle.ltl_claim.specs.ClaimFault as fault
use Rattle.ltl_claim.specs.ClaimItems.{ClaimItem, claim_items, colon_next}
use Rattle.ltl_claim.specs.ClaimAnswer.{claim_answer, ended_with, most_bytes, read_items, undefined, unless_undefined}
use Rattle.ltl_claim.specs.ClaimStep.{step}
use Rattle.ltl_claim.specs.ClaimView.{Answers, ClaimView, IsFaultOf}
use Rattle.ltl_claim.specs.LexerView.{GivesToken}
use Rattle.ltl_claim.specs.ParserView.{Ends, IsOnWay, ParserView, ReadsText, Takes, TakesAll, coming, new_parser}
use Rattle.ltl_claim.specs.ProgramView.{BuiltView, built_of, program_of}
use Rattle.ltl_claim.specs.Reading.{PassesLimit, PlacesFault}
use Rattle.ltl_claim.specs.ResolveView.{AreNested}
use Rattle.ltl_claim.specs.Soundness.{IsSound}
use Rattle.ltl_claim.specs.SymbolView.{symbols_of}
use Rattle.ltl_claim.specs.TokenView.{item_of, kind_of}
use Rattle.ltl_claim.proofs.AnswerLaws.{answered}
use Rattle.ltl_claim.proofs.ResolveLaws.{names_proper, statements_nested}
use Rattle.ltl_claim.proofs.SoundLaws.{sound}
use Rattle.ltl_claim.proofs.UndefinedLaws.{AreInside, items_inside}

-- the state of the definitions
abbrev sofar : List Name → ParserView → Sofar
sofar all v = record { symbols = symbols_of v.symbols; built = built_of all v.built }

-- ---- the fault of a text

module _ (text : List ℕ) (at : ℕ) (k : fault.ClaimFaultKind) (e : ClaimFault) (p : PlacesFault text at k e) where
  pub fault_answers : claim_answer text ≡ Err (record { kind = k; at = at }) → Answers text (Err e)
  fault_answers a = go e p
    where
      go : (f : ClaimFault) → PlacesFault text at k f → Answers text (Err f)
      go (At line column l) q = subst (λ (x : Result Program fault.ClaimFault). IsFaultOf text x (At line column l)) (sym a) q
      go CannotRead q = absurd q
      go OutOfMemory q = absurd q

  pub fault_told : e ≡ CannotRead → ⊥
  fault_told i = subst (λ f. PlacesFault text at k f) i p

-- the length of a text
pub long_answer : (text : List ℕ) → most_bytes < length text → claim_answer text ≡ Err (record { kind = fault.LimitPassed; at = most_bytes })
long_answer text l =
    ap (λ b. if b then Err (record { kind = fault.LimitPassed; at = most_bytes }) else ended_with (claim_items text) (length text) (read_items at_first (claim_items text)))
    (lt-ltb most_bytes (length text) l)

short_answer : (text : List ℕ) → length text ≤ most_bytes → claim_answer text ≡ ended_with (claim_items text) (length text) (read_items at_first (claim_items text))
short_answer text l =
    ap (λ b. if b then Err (record { kind = fault.LimitPassed; at = most_bytes }) else ended_with (claim_items text) (length text) (read_items at_first (claim_items text)))
    (le-ltb most_bytes (length text) l)

pub long_passes : (text : List ℕ) (e : ClaimFault) → PlacesFault text most_bytes fault.LimitPassed e → PassesLimit text (Err e)
long_passes text (At line column k) (p, q) = λ l. (line, column, ap (λ c. Err (At line column c)) (limit k q), p)
  where
    limit : (k : codes.ClaimFaultKind) → kind_of k ≡ fault.LimitPassed → k ≡ codes.TheVariants.LimitPassed
    limit codes.TheVariants.LimitPassed e = refl
    limit k e = cc
long_passes text CannotRead p = absurd p
long_passes text OutOfMemory p = absurd p

pub short_passes : (text : List ℕ) (r : Result ClaimView ClaimFault) → length text ≤ most_bytes → PassesLimit text r
short_passes text r l = λ m. absurd (omega (arith, l, m))

-- ---- the tokens of a text

-- the parser came so far, and these are the items that are left
abbrev pub IsReached : List ℕ → ParserView → List ClaimItem → Type 0
IsReached text v is = IsOnWay text v is × AreInside (length text) is

-- the items before a token is taken are this one and those behind it
given_coming : (old new : List ClaimItem) (o : Option Token) → GivesToken old o new → coming o new ≡ old
given_coming old new None e = sym e
given_coming old new (Some t) e = sym e

pub reach_begins : (text : List ℕ) (v : ParserView) (o : Option Token) (rest : List ClaimItem) → v ≡ new_parser → GivesToken (claim_items text) o rest → IsReached text v (coming o rest)
reach_begins text v o rest e g =
    subst (λ is. IsReached text v is) (sym (given_coming (claim_items text) rest o g)) (subst (λ w. IsOnWay text w (claim_items text)) (sym e) ([], refl, refl), items_inside text)

module _ (E : Type 0) (text : List ℕ) (v w : ParserView) (current next : Option Token) (t : Token) (before rest : List ClaimItem) (token : current ≡ Some t) (given : GivesToken before next rest) where
  -- one is left less
  pub fewer_coming : length (coming next rest) < length (coming current before)
  fewer_coming = let e = ap length (given_coming before rest next given) in let f = ap (λ o. length (coming o before)) token in omega (arith, e, f)

  module _ (labels : Bool) (colon : (behind : List ClaimItem) → labels ≡ colon_next (coming next behind)) (reached : IsReached text v (coming current before)) where
    abbrev behind : Result Sofar fault.ClaimFaultKind → Result Sofar fault.ClaimFault
    behind q = elim q [ Ok c ↦ read_items c (coming next rest) | Err k ↦ Err (record { kind = k; at = t.at }) ]

    here : IsReached text v (item_of t ∷ coming next rest)
    here = subst (λ is. IsReached text v (item_of t ∷ is)) (sym (given_coming before rest next given)) (subst (λ o. IsReached text v (coming o before)) token reached)

    -- a token was taken
    pub reach_more : (o : Option codes.ClaimFaultKind) → o ≡ None → Takes {E = E} labels (item_of t) v (Ok o) w → IsReached text w (coming next rest)
    reach_more None n s = go here
      where
        go : IsReached text v (item_of t ∷ coming next rest) → IsReached text w (coming next rest)
        go ((all, e, r), (l, inside)) =
            let (more, f, q) = s all e in
            ((more, f, sym (ap behind (ap (λ b. step b false (item_of t) (symbols_of v.symbols) (built_of all v.built)) (sym (colon rest)) ∙ q)) ∙ r), inside)
    reach_more (Some k) n s = cc

    -- it is at fault
    pub reach_fault : (o : Option codes.ClaimFaultKind) (k : codes.ClaimFaultKind) → o ≡ Some k → Takes {E = E} labels (item_of t) v (Ok o) w → TakesAll {E = E} text (Ok (Some (t.at, k))) w
    reach_fault None k n s = cc
    reach_fault (Some m) k n s = subst (λ x. TakesAll {E = E} text (Ok (Some (t.at, x))) w) (cc) (go here)
      where
        go : IsReached text v (item_of t ∷ coming next rest) → TakesAll {E = E} text (Ok (Some (t.at, m))) w
        go ((all, e, r), (l, inside)) = (l, sym r ∙ ap behind (ap (λ b. step b false (item_of t) (symbols_of v.symbols) (built_of all v.built)) (sym (colon rest)) ∙ s all e))

pub reach_ends : (E : Type 0) (text : List ℕ) (v : ParserView) (current : Option Token) (rest : List ClaimItem) → current ≡ None → IsReached text v (coming current rest) → TakesAll {E = E} text (Ok None) v
reach_ends E text v None rest e r = r.0
reach_ends E text v (Some t) rest e r = cc

-- ---- the end of a text

module _ (E : Type 0) (text : List ℕ) (v : ParserView) (o : Option (ℕ × codes.ClaimFaultKind)) (taken : TakesAll {E = E} text (Ok o) v) (short : length text ≤ most_bytes) where
  -- a token is at fault
  pub told_fault : (w : ParserView) (f : ℕ × codes.ClaimFaultKind) → o ≡ Some f → ReadsText {E = E} text (Ok (Some f)) w
  told_fault w (at, k) e = go (subst (λ p. TakesAll {E = E} text (Ok p) v) e taken)
    where
      go : TakesAll {E = E} text (Ok (Some (at, k))) v → ReadsText {E = E} text (Ok (Some (at, k))) w
      go (l, r) = (l, short_answer text short ∙ ap (ended_with (claim_items text) (length text)) r)

  module _ (none : o ≡ None) (w : ParserView) (n : ℕ) (size : n ≡ length text) (p : Option codes.ClaimFaultKind) (ends : Ends {E = E} n v (Ok p) w) where
    abbrev closed : List Name → Option fault.ClaimFaultKind → Result Program fault.ClaimFault
    closed all q = elim q [ Some k ↦ Err (record { kind = k; at = length text }) | None ↦ unless_undefined (claim_items text) (length text) (program_of all v.built) ]

    whole : IsOnWay text v []
    whole = subst (λ q. TakesAll {E = E} text (Ok q) v) none taken

    end_told : Ends {E = E} (length text) v (Ok p) w
    end_told = subst (λ m. Ends {E = E} m v (Ok p) w) size ends

    -- the text ends too early
    pub end_fault : (k : codes.ClaimFaultKind) → p ≡ Some k → (x : ParserView) → ReadsText {E = E} text (Ok (Some (n, k))) x
    end_fault k e x = go whole (subst (λ q. Ends {E = E} (length text) v (Ok q) w) e end_told)
      where
        go : IsOnWay text v [] → Ends {E = E} (length text) v (Ok (Some k)) w → ReadsText {E = E} text (Ok (Some (n, k))) x
        go (all, f, r) s = (
          omega (arith, size),
          short_answer text short ∙ ap (ended_with (claim_items text) (length text)) (sym r) ∙ ap (closed all) (s all f) ∙ ap (λ m. Err (record { kind = kind_of k; at = m })) (sym size),
        )

    module _ (ended : p ≡ None) where
      abbrev at_undefined : ℕ
      at_undefined = unwrap_or (undefined v.built.labels false (claim_items text)) (length text)

      abbrev labelled : List Name → Bool → Result Program fault.ClaimFault
      labelled all b = if b then Ok (program_of all v.built) else Err (record { kind = fault.UndefinedLabel; at = at_undefined })

      there : Ends {E = E} (length text) v (Ok None) w
      there = subst (λ q. Ends {E = E} (length text) v (Ok q) w) ended end_told

      answer : (all : List Name) → Ok (sofar all v) ≡ read_items at_first (claim_items text) → claim_answer text ≡ unless_undefined (claim_items text) (length text) (program_of all v.built)
      answer all r = short_answer text short ∙ ap (ended_with (claim_items text) (length text)) (sym r) ∙ ap (closed all) (there.0 all)

      -- a label is missing
      pub undefined_fault : (at : ℕ) → list_all (λ l. is_label l w.built.labels) w.built.gotos ≡ false → at ≡ unwrap_or (undefined w.built.labels false (claim_items text)) (length text) → at ≤ length text
          → (x : ParserView) → ReadsText {E = E} text (Ok (Some (at, codes.TheVariants.UndefinedLabel))) x
      undefined_fault at m e l x = go whole
        where
          missing : list_all (λ l. is_label l v.built.labels) v.built.gotos ≡ false
          missing = subst (λ (u : ParserView). list_all (λ l. is_label l u.built.labels) u.built.gotos ≡ false) there.1 m

          place : at ≡ at_undefined
          place = subst (λ (u : ParserView). at ≡ unwrap_or (undefined u.built.labels false (claim_items text)) (length text)) there.1 e

          go : IsOnWay text v [] → ReadsText {E = E} text (Ok (Some (at, codes.TheVariants.UndefinedLabel))) x
          go (all, f, r) = (l, answer all r ∙ ap (labelled all) missing ∙ ap (λ a. Err (record { kind = fault.UndefinedLabel; at = a })) (sym place))

      -- the text is a claim
      pub whole_text : list_all (λ l. is_label l w.built.labels) w.built.gotos ≡ true → ReadsText {E = E} text (Ok None) w
      whole_text m = subst (λ (u : ParserView). ReadsText {E = E} text (Ok None) u) (sym there.1) (go whole)
        where
          labels : list_all (λ l. is_label l v.built.labels) v.built.gotos ≡ true
          labels = subst (λ (u : ParserView). list_all (λ l. is_label l u.built.labels) u.built.gotos ≡ true) there.1 m

          go : IsOnWay text v [] → ReadsText {E = E} text (Ok None) v
          go (all, f, r) = (all, f, answer all r ∙ ap (labelled all) labels)

-- ---- the program of a claim

module _ (E : Type 0) (text : List ℕ) (o : Option (ℕ × codes.ClaimFaultKind)) (v : ParserView) (none : (x : ℕ × codes.ClaimFaultKind) → o ≡ Some x → ⊥) (reads : ReadsText {E = E} text (Ok o) v) where
  read_of : (p : Option (ℕ × codes.ClaimFaultKind)) → o ≡ p → ReadsText {E = E} text (Ok None) v
  read_of None e = subst (λ q. ReadsText {E = E} text (Ok q) v) e reads
  read_of (Some x) e = absurd (none x e)

  read : ReadsText {E = E} text (Ok None) v
  read = read_of o refl

  program_sound : IsSound (program_of read.0 v.built)
  program_sound = sound text (program_of read.0 v.built) (answered text (program_of read.0 v.built) read.2)

  pub built_nested : (b : BuiltView) → b ≡ v.built → AreNested b.statements
  built_nested b e = subst (λ (c : BuiltView). AreNested c.statements) (sym e) (statements_nested read.0 v.built program_sound)

  pub built_proper : (names : List Name) → names ≡ v.names → list_all is_proposition names ≡ true
  built_proper names e = ap (list_all is_proposition) (e ∙ read.1) ∙ names_proper (program_of read.0 v.built) program_sound
