-- What the stream reader answers at the end of the text.
use Rattle.std.specs.declared.alloc.AllocError.{AllocError}
use Rattle.std.specs.Prelude.{OnOk, is_some, Result}
use Rattle.std.proofs.Common.{◌≡◌, ℕ, ◌≤◌, true, false, ◌⊎◌, inl, inr, List, [], ◌∷◌, ◌++◌, length, Option, Some, None, refl, sym, ◌∙◌, ap, subst}
use Rattle.std.specs.Prelude.{fold, Ok, Err}
use Rattle.std.proofs.lemmas.List.{append-nil}
use Rattle.ltl_spec.specs.Tools.Limits.{stated_limits}
use Rattle.ltl_spec.specs.Hoa.HoaToken.{hoa_items, last_line}
use Rattle.ltl_spec.specs.Hoa.HoaReading.{stated_form}
use Rattle.ltl_spec.specs.Hoa.HoaFaultKind.{HoaFaultKind, NotHoaVersion1, BadToken}
use Rattle.ltl_spec.specs.Hoa.HoaPlace as spec
use Rattle.ltl_spec.specs.Hoa.HoaStep as table
use Rattle.ltl_spec.specs.Hoa.HoaFault as fault
use Rattle.ltl_spec.specs.Hoa.HoaPlace.{Before, before_all}
use Rattle.ltl_spec.specs.Hoa.HoaFault.{take_item, with_line, fault_after, end_fault, fault_at, hoa_fault}
use Rattle.ltl_hoa.specs.declared.stream_reader.Found.{Found}
use Rattle.ltl_hoa.specs.declared.place.Place.{Place}
use Rattle.ltl_hoa.specs.declared.place.Place.TheVariants as place
use Rattle.ltl_hoa.specs.declared.token.TokenKind.{TokenKind}
use Rattle.ltl_hoa.specs.declared.token.TokenKind.TheVariants as kind
use Rattle.ltl_hoa.specs.TokenView.{token_of}
use Rattle.ltl_hoa.specs.LexerView.{last_kind}
use Rattle.ltl_hoa.specs.Resuming.{item_of, with_item}
use Rattle.ltl_hoa.specs.ParserView.{ParserView, ShowsPlace}
use Rattle.ltl_spec.specs.Hoa.HoaMachine.{Came, Reached, came_none, came_at, reach}
use Rattle.ltl_hoa.specs.StreamReaderView.{StreamReaderView, TakesToken, fault_line}
use Rattle.ltl_hoa.specs.Reading.{reached, fault_of, IsSound, IsFaulty, IsIn, IsAfter, IsTold, IsToldIn, IsEnded}
use Rattle.ltl_hoa.proofs.LexLaws.{lexer_last}
use Rattle.ltl_hoa.proofs.StreamReaderLaws.{TokenShown, token_shown, reached_more}
use Rattle.ltl_spec.proofs.Hoa.HoaFaultLaws.{first_fault, within_limit}
use Rattle.ltl_spec.proofs.Hoa.HoaLaws.{first_reached}

-- the fault that was met is that of the text
pub fault_met : (f : Found) (text : List ℕ) → length text ≤ stated_limits.hoa_bytes → IsFaulty f text → hoa_fault stated_limits stated_form text ≡ Some (fault_of f)
fault_met f text l s =
    let r = s.rest [] in
    let all : hoa_items text ≡ s.items ++ r.0 = ap hoa_items (sym (append-nil text)) ∙ r.1 in
    first_fault stated_limits stated_form text s.items r.0 (fault_of f) l all (s.faulty text)

-- the line of a fault at the last token
string_line : (q : Place) (pl : spec.Place) (text : List ℕ) (start last : ℕ) (v : ParserView) (b : Before) (g : Came) → ShowsPlace q v pl b g
    → fault_line q kind.UnclosedText start last ≡ fault.fault_line pl (token_of kind.UnclosedText text) start last
string_line place.End spec.AtEnd text start last v b g s = refl
string_line place.End pl text start last v b g s = absurd s
string_line (place.Body p) (spec.InBody q) text start last v b g s = refl
string_line (place.Body p) pl text start last v b g s = absurd s
string_line q pl text start last v b g s = subst (λ x. last ≡ fault.fault_line x (token_of kind.UnclosedText text) start last) s.1 refl

place_line : (q : Place) (pl : spec.Place) (k : TokenKind) (text : List ℕ) (start last : ℕ) (v : ParserView) (b : Before) (g : Came) → ShowsPlace q v pl b g → fault_line q k start last ≡ fault.fault_line pl (token_of k text) start last
place_line q pl kind.UnclosedText text start last v b g s = string_line q pl text start last v b g s
place_line q pl k text start last v b g s = refl

-- what the definition says of a place at the end
abbrev pub end_kind : Place → Option HoaFaultKind
end_kind place.End = None
end_kind place.Format = Some NotHoaVersion1
end_kind place.Version = Some NotHoaVersion1
end_kind _ = Some BadToken

abbrev pub at_line : Option HoaFaultKind → ℕ → Option fault.HoaFault
at_line None last = None
at_line (Some k) last = fault_at k last

end_line : (q : Place) (pl : spec.Place) (last : ℕ) (v : ParserView) (b : Before) (g : Came) → ShowsPlace q v pl b g → end_fault pl last ≡ at_line (end_kind q) last
end_line place.End spec.AtEnd last v b g s = refl
end_line place.End pl last v b g s = absurd s
end_line (place.Body p) (spec.InBody q) last v b g s = refl
end_line (place.Body p) pl last v b g s = absurd s
end_line q pl last v b g s = subst (λ x. end_fault x last ≡ at_line (end_kind q) last) s.1 refl

-- at the end without a token that is open
pub ended_between : (v : StreamReaderView) (text : List ℕ) → IsSound v text → last_kind v.lexer.phase ≡ None → IsTold v text
ended_between v text s e = record {
  before = s.before;
  came = s.came;
  reached = ap (λ x. reached text x) (ap hoa_items (sym (append-nil text)) ∙ s.rest [] ∙ ap (λ x. s.items ++ x) (lexer_last v.lexer v.line s.lexing ∙ ap (λ o. with_item o v.lexer []) e) ∙ append-nil s.items) ∙ s.reached text;
  shows = s.shows;
}

-- at the end of the last token
pub ended_in : (v w : StreamReaderView) (k : TokenKind) (text : List ℕ) → v.fault ≡ None → v.line ≡ last_line text → IsSound v text → last_kind v.lexer.phase ≡ Some k → TakesToken v k w
    → (w.fault ≡ None) × IsTold w text ⊎ ((f : Found) × (w.fault ≡ Some f) × (fold (take_item stated_limits stated_form text) (Ok before_all) (hoa_items text) ≡ Err (fault_of f)))
ended_in v w k text n line s e t = go (table.step stated_limits stated_form s.before.place s.before (token_of k v.lexer.text)) refl (token_shown v w k s.before s.came n s.shows t)
  where
    all : hoa_items text ≡ s.items ++ item_of k v.lexer ∷ []
    all = ap hoa_items (sym (append-nil text)) ∙ s.rest [] ∙ ap (λ x. s.items ++ x) (lexer_last v.lexer v.line s.lexing ∙ ap (λ o. with_item o v.lexer []) e)

    more : reached text (hoa_items text) ≡ reach stated_limits stated_form text (Ok s.before, s.came) (item_of k v.lexer)
    more = ap (λ x. reached text x) all ∙ reached_more text s.items (item_of k v.lexer) ∙ ap (λ x. reach stated_limits stated_form text x (item_of k v.lexer)) (s.reached text)

    go : (S : table.Step) → table.step stated_limits stated_form s.before.place s.before (token_of k v.lexer.text) ≡ S → TokenShown S (came_at s.before.place s.before (token_of k v.lexer.text) s.came) v k w
        → (w.fault ≡ None) × IsTold w text ⊎ ((f : Found) × (w.fault ≡ Some f) × (fold (take_item stated_limits stated_form text) (Ok before_all) (hoa_items text) ≡ Err (fault_of f)))
    go (Ok c) q a = inl (
      a.0,
      record {
        before = c;
        came = came_at s.before.place s.before (token_of k v.lexer.text) s.came;
        reached = more ∙ ap (λ S. (with_line stated_limits stated_form text s.before.place (item_of k v.lexer) S, came_at s.before.place s.before (token_of k v.lexer.text) s.came)) q;
        shows = a.1;
      },
    )
    go (Err j) q (m, f, d) = inr (
      record { line = fault_line v.parser.place k v.lexer.start v.line; kind = m },
      f,
      sym (first_reached stated_limits stated_form text (hoa_items text) (Ok before_all, came_none))
          ∙ ap (λ (x : Reached). x.0) (more ∙ ap (λ S. (with_line stated_limits stated_form text s.before.place (item_of k v.lexer) S, came_at s.before.place s.before (token_of k v.lexer.text) s.came)) q)
          ∙ ap (λ l. Err (record { kind = j; line = l })) (
          ap (λ n. fault.fault_line s.before.place (token_of k v.lexer.text) v.lexer.start n) (sym line)
          ∙ sym (place_line v.parser.place s.before.place k v.lexer.text v.lexer.start v.line v.parser s.before s.came s.shows.place))
          ∙ ap (λ i. Err (record { kind = i; line = fault_line v.parser.place k v.lexer.start v.line })) (sym d),
    )

-- the fault at the end, if there is one
pub told_fault : (w : StreamReaderView) (text : List ℕ) → length text ≤ stated_limits.hoa_bytes → IsTold w text → hoa_fault stated_limits stated_form text ≡ at_line (end_kind w.parser.place) (last_line text)
told_fault w text l s =
    within_limit stated_limits stated_form text l
    ∙ ap (fault_after stated_limits stated_form text) (sym (first_reached stated_limits stated_form text (hoa_items text) (Ok before_all, came_none)) ∙ ap (λ (x : Reached). x.0) s.reached)
    ∙ end_line w.parser.place s.before.place (last_line text) w.parser s.before s.came s.shows.place

pub last_fault : (f : Found) (text : List ℕ) → length text ≤ stated_limits.hoa_bytes → fold (take_item stated_limits stated_form text) (Ok before_all) (hoa_items text) ≡ Err (fault_of f) → hoa_fault stated_limits stated_form text ≡ Some (fault_of f)
last_fault f text l e = within_limit stated_limits stated_form text l ∙ ap (fault_after stated_limits stated_form text) e

-- ---- the stream reader behind the end

few_bytes : (v : StreamReaderView) (text : List ℕ) → v.given ≤ stated_limits.hoa_bytes → v.given ≡ length text → length text ≤ stated_limits.hoa_bytes
few_bytes v text l e = subst (λ n. n ≤ stated_limits.hoa_bytes) e l

-- a fault was met before
pub ended_met : (v : StreamReaderView) (f : Found) (text : List ℕ) → v.given ≤ stated_limits.hoa_bytes → v.fault ≡ Some f → IsAfter v text → IsEnded v text
ended_met v f text l e a = record {
  few = few_bytes v text l a.given;
  line = a.line;
  inside = subst (λ o. IsToldIn o v text) (sym e) (fault_met f text (few_bytes v text l a.given) (subst (λ o. IsIn o v text) e a.inside));
}

-- no token is open
pub ended_free : (v : StreamReaderView) (text : List ℕ) → v.given ≤ stated_limits.hoa_bytes → v.fault ≡ None → last_kind v.lexer.phase ≡ None → IsAfter v text → IsEnded v text
ended_free v text l e n a = record {
  few = few_bytes v text l a.given;
  line = a.line;
  inside = subst (λ o. IsToldIn o v text) (sym e) (ended_between v text (subst (λ o. IsIn o v text) e a.inside) n);
}

-- the last token was taken
pub ended_token : (v w : StreamReaderView) (k : TokenKind) (text : List ℕ) → v.given ≤ stated_limits.hoa_bytes → v.fault ≡ None → last_kind v.lexer.phase ≡ Some k → TakesToken v k w → IsAfter v text → IsEnded w text
ended_token v w k text l e n t a = record {
  few = few_bytes v text l a.given;
  line = t.line ∙ a.line;
  inside = elim (ended_in v w k text e a.line (subst (λ o. IsIn o v text) e a.inside) n t) [
    | inl p ↦ subst (λ o. IsToldIn o w text) (sym p.0) p.1
    | inr p ↦ subst (λ o. IsToldIn o w text) (sym p.1) (last_fault p.0 text (few_bytes v text l a.given) p.2)
  ];
}

pub some_fault : (o : Option Found) → is_some o ≡ true → (f : Found) × (o ≡ Some f)
some_fault None e = cc
some_fault (Some f) e = (f, refl)

pub no_fault : (o : Option Found) → is_some o ≡ false → o ≡ None
no_fault None e = refl
no_fault (Some f) e = cc

pub ended_kept : (v w : StreamReaderView) (k : TokenKind) (text : List ℕ) (r : Result (Unit {0}) AllocError) → v.given ≤ stated_limits.hoa_bytes → v.fault ≡ None → last_kind v.lexer.phase ≡ Some k → OnOk r (TakesToken v k w) → IsAfter v text
    → OnOk r (IsEnded w text)
ended_kept v w k text (Ok u) l e n t a = ended_token v w k text l e n t a
ended_kept v w k text (Err z) l e n t a = tt

pub other_place : (q : Place) → (q ≡ place.Format → ⊥) → (q ≡ place.Version → ⊥) → (q ≡ place.End → ⊥) → end_kind q ≡ Some BadToken
other_place place.Format f v e = absurd (f refl)
other_place place.Version f v e = absurd (v refl)
other_place place.End f v e = absurd (e refl)
other_place q f v e = refl
