-- Each text has one reading or else one fault, and the outline of what was read tells which.
use Rattle.std.proofs.Common.{◌≡◌, ℕ, zero, suc, ◌⊎◌, inl, inr, List, [], ◌∷◌, ◌++◌, length, map, take, Option, Some, None, slice_get, codes, refl, sym, ◌∙◌, ap, subst, arith, append_assoc, append-nil}
use Rattle.std.proofs.lemmas.Option.{same_Some, none-some}
use Rattle.std.proofs.lemmas.List.{map_push}
use Rattle.ltl_spec.specs.Formulas.Formula.{Reading}
use Rattle.ltl_spec.specs.Formulas.Tokens.{Token, NameWord, Close, Unknown, Item, items, tokens}
use Rattle.ltl_spec.specs.Formulas.Grammar.{IsTextOf, IsBeginning}
use Rattle.ltl_spec.specs.Formulas.Fault.{FaultKind, UnexpectedByte, ExpectedOperand, ExpectedOperatorOrEnd, ExpectedCloseOrOperator, HasKind, HasKindAt, IsFaultAt, IsFault}
use Rattle.ltl_spec.proofs.Formulas.TokenLaws.{token_of}
use Rattle.ltl_spec.proofs.Formulas.BeginningLaws.{Outline, Before, After, walk_step, walk_on, walk, walk_append, walk_none, walk_begins, begins_walk, walk_reads, reads_walk}
use Rattle.ltl_spec.proofs.Collections.ListLaws.{get_done, get_end}
pub use Rattle.ltl_spec.specs.Formulas.Outline.{kind_before, kind_at}

-- the fault at the end of a text with this outline
abbrev pub end_fault : ℕ → Outline → Option (ℕ × FaultKind)
end_fault end (After zero) = None
end_fault end (After (suc n)) = Some (end, ExpectedCloseOrOperator)
end_fault end (Before n) = Some (end, ExpectedOperand)

-- the first fault among these items, which follow what has this outline; `end` is the text's length
abbrev pub first_fault : ℕ → Outline → List Item → Option (ℕ × FaultKind)
first_fault end o [] = end_fault end o
first_fault end o (item ∷ rest) = elim (walk_step o item.token) [ None ↦ Some (item.start, kind_at o item.token) | Some q ↦ first_fault end q rest ]

-- a fault that was found
abbrev fault_of : ℕ → FaultKind → Option (ℕ × FaultKind)
fault_of place kind = Some (place, kind)

-- where the search goes on after an item
abbrev search_on : ℕ → Outline → Item → List Item → Option Outline → Option (ℕ × FaultKind)
search_on end o item rest None = Some (item.start, kind_at o item.token)
search_on end o item rest (Some q) = first_fault end q rest

-- equal places and kinds make equal faults
same_fault : (a b : ℕ) (k l : FaultKind) → a ≡ b → k ≡ l → fault_of a k ≡ fault_of b l
same_fault a b k l p q = λ i. fault_of (p i) (q i)

-- nothing is no outline
different : {P : Type 0} (o : Outline) → None ≡ Some o → P
different o e = absurd (none-some o e)

-- kinds

-- one token more
walk_more : (ts : List Token) (o : Outline) (t : Token) → walk (Some (Before 0)) ts ≡ Some o → walk (Some (Before 0)) (ts ++ t ∷ []) ≡ walk_step o t
walk_more ts o t e = walk_append (Some (Before 0)) ts (t ∷ []) ∙ ap (λ q. walk_on q t) e

-- where a token fits nowhere, no formula goes on with it
pub stuck_ends : (ts : List Token) (o : Outline) (t : Token) → walk (Some (Before 0)) ts ≡ Some o → walk_step o t ≡ None → ¬ (IsBeginning (ts ++ t ∷ []))
stuck_ends ts o t e s b = let w = begins_walk (ts ++ t ∷ []) b in different w.0 (sym s ∙ sym (walk_more ts o t e) ∙ w.1)

-- and where it fits, some formula does
pub fits_begins : (ts : List Token) (o q : Outline) (t : Token) → walk (Some (Before 0)) ts ≡ Some o → walk_step o t ≡ Some q → IsBeginning (ts ++ t ∷ [])
fits_begins ts o q t e s = walk_begins (ts ++ t ∷ []) q (walk_more ts o t e ∙ s)

-- the kind by the outline is the kind
has_kind : (ts : List Token) (o : Outline) → walk (Some (Before 0)) ts ≡ Some o → HasKind ts (kind_before o)
has_kind ts (Before n) e = fits_begins ts (Before n) (After n) (NameWord (codes "a")) e refl
has_kind ts (After zero) e = (stuck_ends ts (After 0) (NameWord (codes "a")) e refl, stuck_ends ts (After 0) Close e refl)
has_kind ts (After (suc n)) e = (stuck_ends ts (After (suc n)) (NameWord (codes "a")) e refl, fits_begins ts (After (suc n)) (After n) Close e refl)

-- also at a byte that begins no token
has_kind_at : (ts : List Token) (o : Outline) (t : Token) → walk (Some (Before 0)) ts ≡ Some o → HasKindAt ts t (kind_at o t)
has_kind_at ts o Unknown e = refl
has_kind_at ts o _ e = has_kind ts o e

-- and no other
kind_only : (ts : List Token) (k l : FaultKind) → HasKind ts k → HasKind ts l → k ≡ l
kind_only ts UnexpectedByte l h g = absurd h
kind_only ts k UnexpectedByte h g = absurd g
kind_only ts ExpectedOperand ExpectedOperand h g = refl
kind_only ts ExpectedOperand _ h g = absurd (g.0 h)
kind_only ts ExpectedCloseOrOperator ExpectedCloseOrOperator h g = refl
kind_only ts ExpectedCloseOrOperator ExpectedOperand h g = absurd (h.0 g)
kind_only ts ExpectedCloseOrOperator ExpectedOperatorOrEnd h g = absurd (g.1 h.1)
kind_only ts ExpectedOperatorOrEnd ExpectedOperatorOrEnd h g = refl
kind_only ts ExpectedOperatorOrEnd ExpectedOperand h g = absurd (h.0 g)
kind_only ts ExpectedOperatorOrEnd ExpectedCloseOrOperator h g = absurd (h.1 g.1)

-- also at a byte that begins no token
kind_at_only : (ts : List Token) (o : Outline) (t : Token) (k : FaultKind) → walk (Some (Before 0)) ts ≡ Some o → HasKindAt ts t k → k ≡ kind_at o t
kind_at_only ts o Unknown k e h = h
kind_at_only ts o _ k e h = kind_only ts k (kind_before o) h (has_kind ts o e)

-- places in lists

-- the tokens of the items that are done
take_done : {X Y : Type 0} (f : X → Y) (done rest : List X) → take (length done) (map f (done ++ rest)) ≡ map f done
take_done f [] rest = refl
take_done f (x ∷ done) rest = ap (λ l. f x ∷ l) (take_done f done rest)

-- and of one item more
take_one : {X Y : Type 0} (f : X → Y) (done rest : List X) (x : X) → take (suc (length done)) (map f (done ++ x ∷ rest)) ≡ map f done ++ f x ∷ []
take_one f [] rest x = refl
take_one f (y ∷ done) rest x = ap (λ l. f y ∷ l) (take_one f done rest x)

-- all of them
take_all : {X Y : Type 0} (f : X → Y) (xs : List X) → take (length xs) (map f xs) ≡ map f xs
take_all f [] = refl
take_all f (x ∷ xs) = ap (λ l. f x ∷ l) (take_all f xs)

-- the outline tells the fault

-- the first item that fits nowhere is at fault
pub fault_at : (text : List ℕ) (done rest : List Item) (item : Item) (o : Outline) → items text ≡ done ++ item ∷ rest
    → walk (Some (Before 0)) (map token_of done) ≡ Some o → walk_step o item.token ≡ None → IsFault text item.start (kind_at o item.token)
fault_at text done rest item o e w s =
    let first : take (length done) (tokens text) ≡ map token_of done = ap (λ l. take (length done) (map token_of l)) e ∙ take_done token_of done (item ∷ rest) in
    let next : take (suc (length done)) (tokens text) ≡ map token_of done ++ item.token ∷ [] = ap (λ l. take (suc (length done)) (map token_of l)) e ∙ take_one token_of done rest item in
    let found : slice_get (items text) (length done) ≡ Some item = ap (λ l. slice_get l (length done)) e ∙ get_done done rest item in
    record {
      count = length done;
      begins = subst IsBeginning (sym first) (walk_begins _ o w);
      stops = subst (λ g. IsFaultAt text (length done) g item.start (kind_at o item.token)) (sym found) (
        refl,
        subst (λ l. ¬ (IsBeginning l)) (sym next) (stuck_ends (map token_of done) o item.token w s),
        subst (λ l. HasKindAt l item.token (kind_at o item.token)) (sym first) (has_kind_at (map token_of done) o item.token w),
      );
    }

-- all items fit, and an operand or a bracket is missing at the end
pub fault_at_end : (text : List ℕ) (o : Outline) → walk (Some (Before 0)) (tokens text) ≡ Some o → ¬ (o ≡ After 0) → IsFault text (length text) (kind_before o)
fault_at_end text o w n =
    let all : take (length (items text)) (tokens text) ≡ tokens text = take_all token_of (items text) in
    record {
      count = length (items text);
      begins = subst IsBeginning (sym all) (walk_begins _ o w);
      stops = subst (λ g. IsFaultAt text (length (items text)) g (length text) (kind_before o)) (sym (get_end (items text))) (
        refl,
        λ R r. n (same_Some _ _ (sym w ∙ reads_walk (tokens text) R r)),
        has_kind (tokens text) o w,
      );
    }

-- the first fault

-- what a search for the first fault says
abbrev pub Tells : List ℕ → Option (ℕ × FaultKind) → Type 0
Tells text None = (R : Reading) × IsTextOf text R
Tells text (Some f) = IsFault text f.0 f.1

-- what the end of a text tells
tells_at_end : (text : List ℕ) (o : Outline) → walk (Some (Before 0)) (tokens text) ≡ Some o → Tells text (end_fault (length text) o)
tells_at_end text (Before n) w = fault_at_end text (Before n) w (λ e. cc)
tells_at_end text (After zero) w = walk_reads (tokens text) w
tells_at_end text (After (suc n)) w = fault_at_end text (After (suc n)) w (λ e. (let h0 = ap brackets e in omega (arith, h0)))
  where
    brackets : Outline → ℕ
    brackets (Before m) = m
    brackets (After m) = m

-- what the search tells from an item on
first_fault_from : (text : List ℕ) (o : Outline) (rest done : List Item) → items text ≡ done ++ rest → walk (Some (Before 0)) (map token_of done) ≡ Some o
    → Tells text (first_fault (length text) o rest)
first_fault_from text o [] done e w =
    tells_at_end text o (ap (λ l. walk (Some (Before 0)) (map token_of l)) (e ∙ append-nil done) ∙ w)
first_fault_from text o (item ∷ rest) done e w =
    elim (walk_step o item.token) as (λ s. walk_step o item.token ≡ s
    → Tells text (search_on (length text) o item rest s)) [
      | None ↦ λ s. fault_at text done rest item o e w s
      | Some q ↦ λ s. first_fault_from text q rest (done ++ item ∷ []) (e ∙ sym (append_assoc done (item ∷ []) rest))
          (ap (walk (Some (Before 0))) (map_push token_of done item) ∙ walk_more (map token_of done) o item.token w ∙ s)
    ] refl

-- Each text has a reading or a fault
pub first_fault_tells : (text : List ℕ) → Tells text (first_fault (length text) (Before 0) (items text))
first_fault_tells text = first_fault_from text (Before 0) (items text) [] refl refl

-- a fault that is found
stuck_found : (end : ℕ) (o q : Outline) (its : List Item) (c : ℕ) (item : Item) → slice_get its c ≡ Some item
    → walk (Some o) (take c (map token_of its)) ≡ Some q → walk_step q item.token ≡ None → first_fault end o its ≡ fault_of item.start (kind_at q item.token)
stuck_found end o q [] c item g w s = cc
stuck_found end o q (x ∷ xs) zero item g w s =
    let i : x ≡ item = same_Some _ _ g in
    let p : o ≡ q = same_Some _ _ w in
    ap (λ y. first_fault end o (y ∷ xs)) i ∙ ap (λ y. first_fault end y (item ∷ xs)) p
    ∙ ap (search_on end q item xs) s
stuck_found end o q (x ∷ xs) (suc c) item g w s =
    elim (walk_step o x.token) as (λ y. walk y (take c (map token_of xs)) ≡ Some q
    → search_on end o x xs y ≡ fault_of item.start (kind_at q item.token)) [
      | None ↦ λ v. different q (sym (walk_none (take c (map token_of xs))) ∙ v)
      | Some r ↦ λ v. stuck_found end r q xs c item g v s
    ] w

-- a search that comes to the end
end_found : (end : ℕ) (o q : Outline) (its : List Item) → walk (Some o) (map token_of its) ≡ Some q → first_fault end o its ≡ end_fault end q
end_found end o q [] w = ap (end_fault end) (same_Some _ _ w)
end_found end o q (x ∷ xs) w =
    elim (walk_step o x.token) as (λ y. walk y (map token_of xs) ≡ Some q
    → search_on end o x xs y ≡ end_fault end q) [
      | None ↦ λ v. different q (sym (walk_none (map token_of xs)) ∙ v)
      | Some r ↦ λ v. end_found end r q xs v
    ] w

-- the tokens up to and including the item at a place
take_next : {X Y : Type 0} (f : X → Y) (xs : List X) (c : ℕ) (x : X) → slice_get xs c ≡ Some x → take (suc c) (map f xs) ≡ take c (map f xs) ++ f x ∷ []
take_next f [] c x g = cc
take_next f (y ∷ ys) zero x g = ap (λ z. f z ∷ []) (same_Some _ _ g)
take_next f (y ∷ ys) (suc c) x g = ap (λ l. f y ∷ l) (take_next f ys c x g)

-- with no item at a place, all tokens stand before it
take_past : {X Y : Type 0} (f : X → Y) (xs : List X) (c : ℕ) → slice_get xs c ≡ None → take c (map f xs) ≡ map f xs
take_past f [] zero g = refl
take_past f [] (suc c) g = refl
take_past f (y ∷ ys) zero g = cc
take_past f (y ∷ ys) (suc c) g = ap (λ l. f y ∷ l) (take_past f ys c g)

-- what the end has where the text is no formula
end_kind : (end : ℕ) (o : Outline) → ¬ (o ≡ After 0) → end_fault end o ≡ fault_of end (kind_before o)
end_kind end (Before n) h = refl
end_kind end (After zero) h = absurd (h refl)
end_kind end (After (suc n)) h = refl

-- a token that doesn't begin a formula with the ones before it is stuck
ends_stuck : (ts : List Token) (o : Outline) (t : Token) → walk (Some (Before 0)) ts ≡ Some o → ¬ (IsBeginning (ts ++ t ∷ [])) → walk_step o t ≡ None
ends_stuck ts o t e n = at (walk_step o t) refl
  where
    at : (s : Option Outline) → walk_step o t ≡ s → walk_step o t ≡ None
    at None s = s
    at (Some q) s = absurd (n (fits_begins ts o q t e s))

-- a fault is what the search finds
fault_found : (text : List ℕ) (c place : ℕ) (kind : FaultKind) (o : Outline) (g : Option Item) → slice_get (items text) c ≡ g
    → walk (Some (Before 0)) (take c (tokens text)) ≡ Some o → IsFaultAt text c g place kind → first_fault (length text) (Before 0) (items text) ≡ Some (place, kind)
fault_found text c place kind o (Some item) g w f =
    let ts = take c (tokens text) in
    let stuck = ends_stuck ts o item.token w (subst (λ l. ¬ (IsBeginning l)) (take_next token_of (items text) c item g) f.1) in
    stuck_found (length text) (Before 0) o (items text) c item g w stuck ∙ same_fault item.start place (kind_at o item.token) kind (sym f.0) (sym (kind_at_only ts o item.token kind w f.2))
fault_found text c place kind o None g w f =
    let all : take c (tokens text) ≡ tokens text = take_past token_of (items text) c g in
    let whole : walk (Some (Before 0)) (tokens text) ≡ Some o = ap (walk (Some (Before 0))) (sym all) ∙ w in
    end_found (length text) (Before 0) o (items text) whole
    ∙ end_kind (length text) o (λ e. let r = walk_reads (tokens text) (whole ∙ ap Some e) in f.1 r.0 r.1)
    ∙ same_fault (length text) place (kind_before o) kind (sym f.0) (kind_only (tokens text) (kind_before o) kind (has_kind (tokens text) o whole) f.2)

-- A fault is the first one
pub fault_is_first : (text : List ℕ) (place : ℕ) (kind : FaultKind) → IsFault text place kind → first_fault (length text) (Before 0) (items text) ≡ Some (place, kind)
fault_is_first text place kind f =
    let w = begins_walk (take f.count (tokens text)) f.begins in
    fault_found text f.count place kind w.0 (slice_get (items text) f.count) refl w.1 f.stops

-- a text with a reading has no first fault
pub reading_has_no_fault : (text : List ℕ) (R : Reading) → IsTextOf text R → first_fault (length text) (Before 0) (items text) ≡ None
reading_has_no_fault text R r = end_found (length text) (Before 0) (After 0) (items text) (reads_walk (tokens text) R r)

-- Each text has exactly one of these: a reading, or one fault
pub reading_or_fault : (text : List ℕ) → ((R : Reading) × IsTextOf text R) ⊎ ((place : ℕ) × (kind : FaultKind) × IsFault text place kind)
reading_or_fault text = at (first_fault (length text) (Before 0) (items text)) (first_fault_tells text)
  where
    at : (f : Option (ℕ × FaultKind)) → Tells text f → ((R : Reading) × IsTextOf text R) ⊎ ((place : ℕ) × (kind : FaultKind) × IsFault text place kind)
    at None t = inl t
    at (Some f) t = inr (f.0, f.1, t)

-- not both
pub never_both : (text : List ℕ) (R : Reading) (place : ℕ) (kind : FaultKind) → IsTextOf text R → ¬ (IsFault text place kind)
never_both text R place kind r f = (let h0 = sym (reading_has_no_fault text R r) ∙ fault_is_first text place kind f in cc)

-- and not two faults
pub fault_once : (text : List ℕ) (place place' : ℕ) (kind kind' : FaultKind) → IsFault text place kind → IsFault text place' kind' → (place ≡ place') × (kind ≡ kind')
fault_once text place place' kind kind' f g =
    let e = same_Some _ _ (sym (fault_is_first text place kind f) ∙ fault_is_first text place' kind' g) in
    ((λ i. (e i).0), λ i. (e i).1)
