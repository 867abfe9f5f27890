-- A step of the header is the same for numbers as they are read.
use Rattle.std.proofs.Common.{◌≡◌, ℕ, ◌-◌, ◌≤◌, Bool, true, false, not, ◌&&◌, List, [], ◌∷◌, Option, Some, None, ◌==◌, codes, refl, sym, ◌∙◌, subst, arith}
use Rattle.std.specs.Prelude.{⊤, nat_le, nat_lt, drop, if◌then◌else◌, option_map, unwrap_or, is_some, Result, Ok, Err}
use Rattle.std.specs.List.{list_any}
use Rattle.std.proofs.lemmas.Bool.Decides.{nat_tests}
use Rattle.ltl_spec.specs.Semantics.Word.{Name}
use Rattle.ltl_spec.specs.Formulas.Tokens.{same_name}
use Rattle.ltl_spec.specs.Formulas.Names.{is_proposition}
use Rattle.ltl_spec.specs.Tools.Limits.{stated_limits}
use Rattle.ltl_spec.specs.Hoa.HoaToken as token
use Rattle.ltl_spec.specs.Hoa.HoaToken.{HoaToken}
use Rattle.ltl_spec.specs.Hoa.HoaReading.{stated_form, begins_upper, acceptance_tokens}
use Rattle.ltl_spec.specs.Hoa.HoaFaultKind.{Unsupported, LimitPassed}
use Rattle.ltl_spec.specs.Hoa.HoaPlace as spec
use Rattle.ltl_spec.specs.Hoa.HoaPlace.{Before, HoaHeader}
use Rattle.ltl_spec.specs.Hoa.HoaStep as table
use Rattle.ltl_spec.specs.Hoa.HoaStep.{Step, step, go_to}
use Rattle.ltl_hoa.specs.declared.marked.TheConstants.{MOST_SETS}
use Rattle.ltl_hoa.specs.declared.fault.Stop.{Stop}
use Rattle.ltl_hoa.specs.declared.token.TokenKind.{TokenKind}
use Rattle.ltl_hoa.specs.declared.token.TokenKind.TheVariants as kind
use Rattle.ltl_hoa.specs.declared.place.Place.{Place}
use Rattle.ltl_hoa.specs.declared.place.Place.TheVariants as place
use Rattle.ltl_hoa.specs.declared.place.ItemBefore.{ItemBefore}
use Rattle.ltl_hoa.specs.declared.place.ItemBefore.TheVariants as item
use Rattle.ltl_hoa.specs.declared.place.AcceptancePart.{AcceptancePart}
use Rattle.ltl_hoa.specs.declared.place.AcceptancePart.TheVariants as part
use Rattle.ltl_hoa.specs.NumberView.{capped, capped_token}
use Rattle.ltl_hoa.specs.HeaderView.{HeaderView, Fits, IsPartOf, Leads, Takes, acceptance_left, before_of, item_of, place_of, read, stepped}
use Rattle.ltl_hoa.specs.TokenView.{token_of}
use Rattle.ltl_hoa.specs.ParserView.{IsFew, capped_header}

-- the first is the second with a start as it is read, within the limits, or it is the same fault
abbrev pub Agrees : Step → Step → Type 0
Agrees (Ok c) (Ok d) = (c ≡ record d { header = capped_header d.header }) × IsFew d.header × (d.numbers ≡ []) × (d.edges ≡ 0)
Agrees (Ok c) (Err k) = ⊥
Agrees (Err k) (Ok d) = ⊥
Agrees (Err k) (Err j) = k ≡ j

if_agrees : (c : Bool) (x x' y y' : Step) → Agrees x y → Agrees x' y' → Agrees (if c then x else x') (if c then y else y')
if_agrees true x x' y y' a n = a
if_agrees false x x' y y' a n = n

-- ---- numbers

pub capped_small : (n : ℕ) → n ≤ 4_294_967_295 → capped n ≡ n
capped_small n l = omega (arith, l)

pub capped_over : (m n : ℕ) → m ≤ stated_limits.hoa_edges → nat_lt m (capped n) ≡ nat_lt m n
capped_over m n l = grind (arith, nat_tests, l)

pub capped_under : (n m : ℕ) → m ≤ stated_limits.hoa_edges → nat_lt (capped n) m ≡ nat_lt n m
capped_under n m l = grind (arith, nat_tests, l)

pub capped_same : (n m : ℕ) → m ≤ stated_limits.hoa_edges → (capped n == m) ≡ (n == m)
capped_same n m l = grind (arith, nat_tests, l)

pub small_of : (m n : ℕ) → m ≤ stated_limits.hoa_edges → nat_lt m n ≡ false → capped n ≡ n
small_of m n l e = grind (arith, nat_tests, l, e)

-- a number that is at most a limit
limited : (m n : ℕ) → m ≤ stated_limits.hoa_edges → (f g : ℕ → Step) → ((k : ℕ) → k ≤ m → Agrees (f k) (g k))
    → Agrees (if nat_lt m (capped n) then Err LimitPassed else f (capped n)) (if nat_lt m n then Err LimitPassed else g n)
limited m n l f g a = go (nat_lt m n) refl
  where
    go : (c : Bool) → nat_lt m n ≡ c → Agrees (if nat_lt m (capped n) then Err LimitPassed else f (capped n)) (if c then Err LimitPassed else g n)
    go true e = subst (λ x. Agrees (if x then Err LimitPassed else f (capped n)) (Err LimitPassed)) (sym (capped_over m n l ∙ e)) refl
    go false e =
        subst (λ x. Agrees (if x then Err LimitPassed else f (capped n)) (g n)) (sym (capped_over m n l ∙ e))
        (subst (λ k. Agrees (f k) (g n)) (sym (small_of m n l e)) (a n (grind (arith, nat_tests, e))))

-- a token that is wanted
abbrev IsSmall : List HoaToken → Type 0
IsSmall (token.Int k ∷ ts) = k ≤ stated_limits.hoa_edges
IsSmall _ = ⊤

same_token : (w : HoaToken) (ts : List HoaToken) (t : HoaToken) → IsSmall (w ∷ ts) → table.is_token w (capped_token t) ≡ table.is_token w t
same_token w ts (token.Int m) l = with_number w l
  where
    turned : (i j : ℕ) → (i == j) ≡ (j == i)
    turned i j = grind (arith, nat_tests)

    with_number : (w : HoaToken) → IsSmall (w ∷ ts) → table.is_token w (token.Int (capped m)) ≡ table.is_token w (token.Int m)
    with_number (token.Int k) l = turned k (capped m) ∙ capped_same m k l ∙ turned m k
    with_number w l = refl
same_token w ts t l = refl

same_broken : (t : HoaToken) → table.unless_broken (capped_token t) Unsupported ≡ table.unless_broken t Unsupported
same_broken (token.Int m) = refl
same_broken t = refl

small_part : (n : ℕ) (p : AcceptancePart) → n ≤ MOST_SETS → IsPartOf n p → IsSmall (acceptance_left n p)
small_part n (part.Number k) l inside = omega (arith, l, inside)
small_part n p l inside = tt

-- ---- places

-- the definition's state, and the same with the start as it is read
module _ (h : HoaHeader) (at : spec.Place) (few : IsFew h) where
  abbrev b : Before
  b = record { place = at; header = h; numbers = []; edges = 0 }

  abbrev c : Before
  c = record { place = spec.AtFormat; header = capped_header h; numbers = []; edges = 0 }

  to : (p : spec.Place) → Agrees (go_to c p) (go_to b p)
  to p = (refl, few, refl, refl)

  once : (d e : Bool) (p : spec.Place) → d ≡ e → Agrees (table.begin_once c d p) (table.begin_once b e p)
  once d e p q = subst (λ x. Agrees (table.begin_once c d p) (table.begin_once b x p)) q (if_agrees d _ _ _ _ refl (to p))

  item_begins : (name : List ℕ) → Agrees (table.begin_item c name) (table.begin_item b name)
  item_begins name =
      if_agrees (same_name name (codes "HOA")) _ _ _ _ refl (
      if_agrees (same_name name (codes "States")) _ _ _ _ (once _ _ spec.AtStates refl) (
      if_agrees (same_name name (codes "Start")) _ _ _ _ (once _ _ spec.AtStart (stands h.start)) (
      if_agrees (same_name name (codes "AP")) _ _ _ _ (once _ _ spec.AtCount refl) (
      if_agrees (same_name name (codes "Acceptance")) _ _ _ _ (once _ _ spec.AtSets refl) (
      if_agrees (same_name name (codes "Alias")) _ _ _ _ refl (
      if_agrees (begins_upper name) _ _ _ _ refl (to (spec.AtItem spec.OtherItem))))))))
    where
      stands : (o : Option ℕ) → is_some (option_map capped o) ≡ is_some o
      stands None = refl
      stands (Some n) = refl

  goes_on : (i : ItemBefore) (t : HoaToken) → Agrees (table.go_on c (item_of i) (capped_token t)) (table.go_on b (item_of i) t)
  goes_on item.Other (token.StringToken s) = to (spec.AtItem spec.OtherItem)
  goes_on item.Other (token.Identifier s) = to (spec.AtItem spec.OtherItem)
  goes_on item.Other (token.Int n) = to (spec.AtItem spec.OtherItem)
  goes_on i (token.Int n) = refl
  goes_on i t = refl

  listed : (names : List Name) (left : ℕ) → Agrees (table.with_names c names left) (table.with_names b names left)
  listed names left = (refl, few, refl, refl)

  expected : (n : Option ℕ) → unwrap_or n 0 ≤ MOST_SETS → (ts : List HoaToken)
      → Agrees (table.expect (record c { header = record c.header { sets = n } }) ts) (table.expect (record b { header = record b.header { sets = n } }) ts)
  expected n l [] = (refl, (few.0, l), refl, refl)
  expected n l (t ∷ ts) = (refl, (few.0, l), refl, refl)

  wanted : (ts : List HoaToken) (t : HoaToken) → IsSmall ts → Agrees (step stated_limits stated_form (spec.InAcceptance ts) c (capped_token t)) (step stated_limits stated_form (spec.InAcceptance ts) b t)
  wanted [] t l = same_broken t
  wanted (w ∷ ts) t l =
      subst (λ x. Agrees (if x then table.expect c ts else Err (table.unless_broken (capped_token t) Unsupported)) (if table.is_token w t then table.expect b ts else Err (table.unless_broken t Unsupported)))
      (sym (same_token w ts t l)) (if_agrees (table.is_token w t) _ _ _ _ (expected h.sets few.1 ts) (same_broken t))

  places : (q : Place) (left : ℕ) (t : HoaToken) → Fits q (record { items = capped_header h; left = left }) → ((i : ItemBefore) → q ≡ place.Item i → t ≡ token.Body → ⊥)
      → let p = place_of q (record { items = capped_header h; left = left }) in Agrees (step stated_limits stated_form p c (capped_token t)) (step stated_limits stated_form p b t)
  places place.Format left (token.Header name) f n = if_agrees (same_name name (codes "HOA")) _ _ _ _ (to spec.AtVersion) refl
  places place.Format left t f n = refl
  places place.Version left (token.Identifier name) f n = if_agrees (same_name name (codes "v1")) _ _ _ _ (to (spec.AtItem spec.PlainItem)) refl
  places place.Version left t f n = refl
  places (place.Item i) left (token.Header name) f n = item_begins name
  places (place.Item i) left token.Body f n = absurd (n i refl refl)
  places (place.Item i) left t f n = goes_on i t
  places place.States left (token.Int k) f n =
      limited stated_limits.hoa_states k (omega arith) (λ m. Ok (record c { place = spec.AtItem spec.PlainItem; header = record c.header { states = Some m } }))
      (λ m. Ok (record b { place = spec.AtItem spec.PlainItem; header = record b.header { states = Some m } })) (λ m l. (refl, (l, few.1), refl, refl))
  places place.States left t f n = refl
  places place.Start left (token.Int k) f n = (refl, few, refl, refl)
  places place.Start left t f n = refl
  places place.Count left (token.Int k) f n = limited stated_limits.propositions k (omega arith) (table.with_names c []) (table.with_names b []) (λ m l. listed [] m)
  places place.Count left t f n = refl
  places place.Names left (token.StringToken name) f n = if_agrees (is_proposition name && not (list_any (same_name name) (unwrap_or h.names []))) _ _ _ _ (listed _ (left - 1)) refl
  places place.Names left t f n = refl
  places place.Sets left (token.Int k) f n =
      subst (λ x. Agrees (if x then own (capped k) else Err LimitPassed) (if nat_le k MOST_SETS then all k else Err LimitPassed)) (sym (below MOST_SETS (capped k)))
      (subst (λ x. Agrees (if not (nat_lt MOST_SETS (capped k)) then own (capped k) else Err LimitPassed) (if x then all k else Err LimitPassed)) (sym (below MOST_SETS k))
      (turned (nat_lt MOST_SETS (capped k)) (nat_lt MOST_SETS k) _ _ (limited MOST_SETS k (omega arith) own all (λ m l. expected (Some m) l (drop 1 (acceptance_tokens m))))))
    where
      own : ℕ → Step
      own m = table.expect (record c { header = record c.header { sets = Some m } }) (drop 1 (acceptance_tokens m))

      all : ℕ → Step
      all m = table.expect (record b { header = record b.header { sets = Some m } }) (drop 1 (acceptance_tokens m))

      below : (m k : ℕ) → nat_le k m ≡ not (nat_lt m k)
      below m k = grind (arith, nat_tests)

      turned : (d e : Bool) (x y : Step) → Agrees (if d then Err LimitPassed else x) (if e then Err LimitPassed else y) → Agrees (if not d then x else Err LimitPassed) (if not e then y else Err LimitPassed)
      turned true true x y a = a
      turned true false x y a = a
      turned false true x y a = a
      turned false false x y a = a
  places place.Sets left t f n = refl
  places (place.Acceptance p) left t f n = wanted (acceptance_left (unwrap_or h.sets 0) p) t (small_part (unwrap_or h.sets 0) p few.1 f)
  places q left t f n = absurd f

-- a step of the header's is that of the definition
pub step_agrees : (q : Place) (v : HeaderView) (b : Before) (t : HoaToken) → v.items ≡ capped_header b.header → IsFew b.header → (b.numbers ≡ []) → (b.edges ≡ 0) → Fits q v → ((i : ItemBefore) → q ≡ place.Item i → t ≡ token.Body → ⊥)
    → Agrees (stepped q v t) (step stated_limits stated_form (place_of q v) b t)
step_agrees q v b t e few none made f n =
    subst (λ (x : HoaHeader). Agrees (stepped q (record { items = x; left = v.left }) t) (step stated_limits stated_form (place_of q (record { items = x; left = v.left })) b t)) (sym e)
    (subst (λ (x : Before). Agrees (stepped q (record { items = capped_header b.header; left = v.left }) t) (step stated_limits stated_form (place_of q (record { items = capped_header b.header; left = v.left })) x t))
    (λ i. record { place = b.place; header = b.header; numbers = (sym none) i; edges = (sym made) i })
    (places b.header b.place few q v.left t (subst (λ (x : HoaHeader). Fits q (record { items = x; left = v.left })) e f) n))

-- ---- tokens behind an item

-- one that begins no item
pub behind_item : (k : TokenKind) (text : List ℕ) (i : ItemBefore) (v : HeaderView) (r : Result Place Stop) → (k ≡ kind.Header → ⊥) → Leads (table.go_on (before_of v) (item_of i) (read k text)) r v
    → Takes (place.Item i) v (token_of k text) r v
behind_item kind.Header text i v r n l = absurd (n refl)
behind_item kind.Body text i v r n l = tt
behind_item k text i v r n l = λ fits. l
