-- The first token of a text, and the items before and after it.
use Rattle.std.proofs.Common.{◌≡◌, ◌∙◌, ℕ, suc, ◌+◌, ◌-◌, ◌<◌, ◌≤◌, Bool, true, false, cond, ◌&&◌, ◌⊎◌, inl, inr, List, length-drop, [], ◌∷◌, length, take, drop, drop-cons, le_refl, take_while, find, Some, length-take, nat_eq, slice_index, ap, sym, refl, subst, arith}
use Rattle.std.specs.List.{starts_with, prefix_len}
use Rattle.ltl_spec.specs.Formulas.Tokens as spec
use Rattle.ltl_spec.proofs.Formulas.TokenLaws.{loop_token, loop_end}
use Rattle.ltl_syntax.specs.declared.token.TokenKind.{TokenKind}
use Rattle.ltl_syntax.specs.declared.token.TokenKind.TheVariants.{Constant, Unknown}
use Rattle.ltl_syntax.specs.TokenView.{TokensView, GivesToken, sign_of, first_of, token_of, items_at, item_of}

-- no sign is longer than three bytes, and none has a byte 0
sign_same : (b : ℕ) (bs : List ℕ) → spec.sign_token (find (λ s. starts_with nat_eq (b ∷ bs) s.0) spec.signs) ≡ sign_of b (slice_index bs 0) (slice_index bs 1)
sign_same b [] = refl
sign_same b (c ∷ []) = refl
sign_same b (c ∷ d ∷ bs) = refl

-- a text that begins with no letter begins with a sign, or no token
pub sign_first : (xs : List ℕ) (b c d : ℕ) → 0 < length xs → b ≡ slice_index xs 0 → c ≡ slice_index xs 1 → d ≡ slice_index xs 2 → spec.is_lower b ≡ false → first_of xs ≡ sign_of b c d
sign_first [] b c d l e f g h = absurd (omega arith)
sign_first (x ∷ xs) b c d l e f g h =
    ap (λ z. cond z (spec.word_token (take_while spec.is_name_byte (x ∷ xs)), length (take_while spec.is_name_byte (x ∷ xs)))
    (spec.sign_token (find (λ s. starts_with nat_eq (x ∷ xs) s.0) spec.signs))) (ap spec.is_lower (sym e) ∙ h)
    ∙ sign_same x xs ∙ signs_same (sym e) (sym f) (sym g)
  where
    signs_same : {p q r s t u : ℕ} → p ≡ q → r ≡ s → t ≡ u → sign_of p r t ≡ sign_of q s u
    signs_same v w z = λ i. sign_of (v i) (w i) (z i)

-- a list with which another one begins is no longer
no_longer : (xs ys : List ℕ) → starts_with nat_eq xs ys ≡ true → length ys ≤ length xs
no_longer xs [] e = omega arith
no_longer [] (y ∷ ys) e = absurd (cc)
no_longer (x ∷ xs) (y ∷ ys) e = let l = no_longer xs ys (second (nat_eq y x) (starts_with nat_eq xs ys) e) in omega arith
  where
    second : (p q : Bool) → (p && q) ≡ true → q ≡ true
    second true q d = d
    second false q d = cc

-- so is the sign
sign_within : (xs : List ℕ) (ss : List (List ℕ × spec.Token)) → 0 < length xs → (spec.sign_token (find (λ s. starts_with nat_eq xs s.0) ss)).1 ≤ length xs
sign_within xs [] l = l
sign_within xs (s ∷ ss) l =
    elim (starts_with nat_eq xs s.0) as (λ b. starts_with nat_eq xs s.0 ≡ b → (spec.sign_token (cond b (Some s) (find (λ z. starts_with nat_eq xs z.0) ss))).1 ≤ length xs) [
      | true ↦ λ e. no_longer xs s.0 e
      | false ↦ λ e. sign_within xs ss l
    ] refl

-- a token is no longer than the text
pub first_within : (xs : List ℕ) → 0 < length xs → (first_of xs).1 ≤ length xs
first_within [] l = absurd (omega arith)
first_within (b ∷ bs) l =
    elim (spec.is_lower b) as (λ c. (cond c (spec.word_token (take_while spec.is_name_byte (b ∷ bs)), length (take_while spec.is_name_byte (b ∷ bs)))
    (spec.sign_token (find (λ s. starts_with nat_eq (b ∷ bs) s.0) spec.signs))).1 ≤ length (b ∷ bs)) [
      | true ↦ omega (arith, length-take (prefix_len spec.is_name_byte (b ∷ bs)) (b ∷ bs))
      | false ↦ sign_within (b ∷ bs) spec.signs l
    ]

-- ---- the items at a token

-- equal pairs
pairs : {A B : Type 0} {a c : A} {b d : B} → a ≡ c → b ≡ d → ◌≡◌ {A = A × B} (a, b) (c, d)
pairs e f = λ i. (e i, f i)

-- equal lists
conses : {A : Type 0} {a c : A} {b d : List A} → a ≡ c → b ≡ d → a ∷ b ≡ c ∷ d
conses e f = λ i. e i ∷ f i

module _ (text : List ℕ) (at n : ℕ) (kind : TokenKind) (l : at < length text) (stops : spec.is_blank (slice_index text at) ≡ false)
    (is : token_of (take n (drop at text)) kind ≡ (first_of (drop at text)).0) (long : n ≡ (first_of (drop at text)).1) where
  -- the first token there
  found : spec.first_token (slice_index text at) (drop (at + 1) text) ≡ (token_of (take n (drop at text)) kind, n)
  found =
      let next : suc at ≡ at + 1 = omega arith in
      ap first_of (ap (λ k. slice_index text at ∷ drop k text) (sym next) ∙ sym (drop-cons text at 0 l)) ∙ pairs (sym is) (sym long)

  -- it makes an item
  item_found : items_at text at ≡ spec.item_before (token_of (take n (drop at text)) kind) at (at + n) (items_at text (at + n))
  item_found = loop_token text at (token_of (take n (drop at text)) kind) n l stops found

  -- the item's text
  same_item : item_of text (record { kind = kind; start = at; end = at + n }) ≡ record { token = token_of (take n (drop at text)) kind; start = at; end = at + n }
  same_item = let e : at + n - at ≡ n = omega arith in ap (λ k. record { token = token_of (take k (drop at text)) kind; start = at; end = at + n }) e

-- a token and the items behind it
pub next_item : (text : List ℕ) (at n : ℕ) (kind : TokenKind) → at < length text → spec.is_blank (slice_index text at) ≡ false
    → token_of (take n (drop at text)) kind ≡ (first_of (drop at text)).0 → n ≡ (first_of (drop at text)).1 → (kind ≡ Unknown → ⊥)
    → items_at text at ≡ item_of text (record { kind = kind; start = at; end = at + n }) ∷ items_at text (at + n)
next_item text at n Unknown l stops is long other = absurd (other refl)
next_item text at n (Constant b) l stops is long other = item_found text at n (Constant b) l stops is long ∙ ap (λ i. i ∷ items_at text (at + n)) (sym (same_item text at n (Constant b) l stops is long))
next_item text at n kind l stops is long other = item_found text at n kind l stops is long ∙ ap (λ i. i ∷ items_at text (at + n)) (sym (same_item text at n kind l stops is long))

-- nothing comes behind a byte that begins no token
pub last_item : (text : List ℕ) (at n : ℕ) → at < length text → spec.is_blank (slice_index text at) ≡ false
    → token_of (take n (drop at text)) Unknown ≡ (first_of (drop at text)).0 → n ≡ (first_of (drop at text)).1
    → items_at text at ≡ item_of text (record { kind = Unknown; start = at; end = at + n }) ∷ items_at text (length text)
last_item text at n l stops is long =
    item_found text at n Unknown l stops is long
    ∙ conses (sym (same_item text at n Unknown l stops is long)) (sym (loop_end text (length text) (le_refl (length text))))

-- what the lexer gives
pub given_token : (old : TokensView) (text : List ℕ) (start n self : ℕ) (kind : TokenKind) → text ≡ old.text → old.rest ≡ items_at text start
    → start < length text → spec.is_blank (slice_index text start) ≡ false → token_of (take n (drop start text)) kind ≡ (first_of (drop start text)).0
    → n ≡ (first_of (drop start text)).1 → n ≤ length (drop start text)
    → ((kind ≡ Unknown) × (self ≡ length text)) ⊎ ((kind ≡ Unknown → ⊥) × (self ≡ start + n))
    → GivesToken old (Some (record { kind = kind; start = start; end = start + n })) (record { text = text; rest = items_at text self })
given_token old text start n self kind same rest l stops is long within at = (
  same,
  rest ∙ items ∙ ap (λ t. item_of t (record { kind = kind; start = start; end = start + n }) ∷ items_at text self) same,
  omega arith,
  subst (λ t. start + n ≤ length t) same (omega (arith, length-drop start text)),
)
  where
    items : items_at text start ≡ item_of text (record { kind = kind; start = start; end = start + n }) ∷ items_at text self
    items =
        elim at [
          | inl (u, e) ↦ last_item text start n l stops (subst (λ k. token_of (take n (drop start text)) k ≡ (first_of (drop start text)).0) u is) long
              ∙ (λ i. item_of text (record { kind = sym u i; start = start; end = start + n }) ∷ items_at text (sym e i))
          | inr (o, e) ↦ next_item text start n kind l stops is long o
              ∙ ap (λ s. item_of text (record { kind = kind; start = start; end = start + n }) ∷ items_at text s) (sym e)
        ]
