-- The first token of a text, and the items behind it.
use Rattle.std.proofs.Common.{◌≡◌, ◌∙◌, ℕ, zero, suc, ◌+◌, ◌-◌, ◌<◌, ◌≤◌, Bool, true, false, ◌&&◌, ◌||◌, List, [], ◌∷◌, ◌++◌, map, length, take, drop, drop-cons, nat_eq, slice_index, Option, Some, None, refl, sym, ap, subst, arith}
use Rattle.std.specs.Prelude.{take_while, find, option_map, unwrap_or, if◌then◌else◌, codes}
use Rattle.std.specs.List.{list_all, list_any, starts_with}
use Rattle.std.proofs.lemmas.List.{drop_all}
use Rattle.std.proofs.Math.Seq.{drop-nil}
use Rattle.ltl_spec.specs.Formulas.Tokens.{same_name}
use Rattle.ltl_claim.specs.declared.token.TokenKind.TheVariants.{Broken}
use Rattle.ltl_spec.specs.Formulas.Tokens.{is_blank}
use Rattle.ltl_spec.specs.Hoa.HoaToken.{is_digit, begins_identifier}
use Rattle.ltl_spec.specs.Claims.ClaimTokens as spec
use Rattle.ltl_spec.specs.Claims.ClaimTokens.{ClaimToken}
use Rattle.ltl_claim.specs.ClaimItems as items
use Rattle.ltl_claim.specs.ClaimItems.{ClaimItem, Tell, claim_items_from, item_at}
use Rattle.ltl_claim.specs.declared.token.TokenKind.{TokenKind}
use Rattle.ltl_claim.specs.TokenView.{foreign_tell, tell_of, token_of, words_to_c, words_to_g, words_to_o, words_to_x}
use Rattle.ltl_claim.specs.LexerView.{AreFound, items_at, sign_of, sign_tell, tell_sign, visible_first, visible_of, visible_tell}

-- ---- bytes of a text

pub cons_at : (text : List ℕ) (at : ℕ) → at < length text → drop at text ≡ slice_index text at ∷ drop (at + 1) text
cons_at text at l = let next : suc at ≡ at + 1 = omega arith in drop-cons text at 0 l ∙ ap (λ k. slice_index text at ∷ drop k text) next

-- dropped twice
pub drop_more : (m n : ℕ) (xs : List ℕ) → drop n (drop m xs) ≡ drop (m + n) xs
drop_more zero n xs = ap (λ k. drop k xs) (omega arith)
drop_more (suc m) n [] = drop-nil {A = ℕ} n ∙ sym (drop-nil {A = ℕ} (suc m + n))
drop_more (suc m) n (x ∷ xs) = let e : suc (m + n) ≡ suc m + n = omega arith in drop_more m n xs ∙ ap (λ k. drop k (x ∷ xs)) e

-- skipped bytes
pub skipped : (k at : ℕ) (xs : List ℕ) → claim_items_from k at xs ≡ claim_items_from 0 (at + k) (drop k xs)
skipped zero at xs = ap (λ n. claim_items_from 0 n xs) (omega arith)
skipped (suc k) at [] = refl
skipped (suc k) at (x ∷ xs) = skipped k (at + 1) xs ∙ ap (λ n. claim_items_from 0 n (drop k xs)) (omega arith)

-- ---- items

behind : (n at b : ℕ) (bs : List ℕ) → claim_items_from (suc n - 1) (at + 1) bs ≡ claim_items_from 0 (at + suc n) (drop n bs)
behind n at b bs =
    let e : suc n - 1 ≡ n = omega arith in
    ap (λ k. claim_items_from k (at + 1) bs) e ∙ skipped n (at + 1) bs ∙ ap (λ k. claim_items_from 0 k (drop n bs)) (omega arith)

-- a token, and what stands behind it
pub items_token : (at n : ℕ) (xs : List ℕ) (k : TokenKind) → AreFound xs (Some k) n → 0 < n → 0 < length xs
    → claim_items_from 0 at xs ≡ record { token = token_of (take n xs) k; tell = tell_of k; at = at } ∷ claim_items_from 0 (at + n) (drop n xs)
items_token at n [] k f p l = absurd (omega arith)
items_token at zero (b ∷ bs) k f p l = absurd (omega arith)
items_token at (suc n) (b ∷ bs) k (f, t) p l =
    ap (λ (q : List ClaimToken × ℕ). map (item_at at b bs) q.0 ++ claim_items_from (q.1 - 1) (at + 1) bs) f
    ∙ both t (behind n at b bs)
  where
    both : {t u : Tell} {is js : List ClaimItem} → t ≡ u → is ≡ js
        → record { token = token_of (take (suc n) (b ∷ bs)) k; tell = t; at = at } ∷ is ≡ record { token = token_of (take (suc n) (b ∷ bs)) k; tell = u; at = at } ∷ js
    both e f = λ i. record { token = token_of (take (suc n) (b ∷ bs)) k; tell = e i; at = at } ∷ f i

-- a blank or a comment
pub items_blank : (at n : ℕ) (xs : List ℕ) → AreFound xs None n → 0 < n → 0 < length xs → claim_items_from 0 at xs ≡ claim_items_from 0 (at + n) (drop n xs)
items_blank at n [] f p l = absurd (omega arith)
items_blank at zero (b ∷ bs) f p l = absurd (omega arith)
items_blank at (suc n) (b ∷ bs) f p l =
    ap (λ (q : List ClaimToken × ℕ). map (item_at at b bs) q.0 ++ claim_items_from (q.1 - 1) (at + 1) bs) f ∙ behind n at b bs

-- the same at an offset
pub token_at : (text : List ℕ) (at n : ℕ) (k : TokenKind) → at < length text → AreFound (drop at text) (Some k) n → 0 < n → 0 < length (drop at text)
    → items_at text at ≡ record { token = token_of (take n (drop at text)) k; tell = tell_of k; at = at } ∷ items_at text (at + n)
token_at text at n k l f p q =
    items_token at n (drop at text) k f p q ∙ ap (λ xs. record { token = token_of (take n (drop at text)) k; tell = tell_of k; at = at } ∷ claim_items_from 0 (at + n) xs) (drop_more at n text)

pub blank_at : (text : List ℕ) (at n : ℕ) → AreFound (drop at text) None n → 0 < n → 0 < length (drop at text) → items_at text at ≡ items_at text (at + n)
blank_at text at n f p q = items_blank at n (drop at text) f p q ∙ ap (claim_items_from 0 (at + n)) (drop_more at n text)

-- nothing stands behind the last byte
pub items_end : (text : List ℕ) (at : ℕ) → length text ≤ at → items_at text at ≡ []
items_end text at l = go at text l
  where
    go : (n : ℕ) (xs : List ℕ) → length xs ≤ n → claim_items_from 0 at (drop n xs) ≡ []
    go zero [] l = refl
    go zero (x ∷ xs) l = absurd (omega arith)
    go (suc n) [] l = refl
    go (suc n) (x ∷ xs) l = go n xs (omega arith)

-- ---- comments

comment_step : (text : List ℕ) (at : ℕ) → at < length text → starts_with nat_eq (drop at text) (codes "*/") ≡ false
    → spec.comment_rest (drop at text) ≡ option_map (λ n. n + 1) (spec.comment_rest (drop (at + 1) text))
comment_step text at l e =
    let whole = cons_at text at l in
    ap spec.comment_rest whole
    ∙ ap (λ c. if c then Some 2 else option_map (λ n. n + 1) (spec.comment_rest (drop (at + 1) text))) (ap (λ xs. starts_with nat_eq xs (codes "*/")) (sym whole) ∙ e)

comment_here : (text : List ℕ) (at : ℕ) → at < length text → starts_with nat_eq (drop at text) (codes "*/") ≡ true → spec.comment_rest (drop at text) ≡ Some 2
comment_here text at l e =
    let whole = cons_at text at l in
    ap spec.comment_rest whole
    ∙ ap (λ c. if c then Some 2 else option_map (λ n. n + 1) (spec.comment_rest (drop (at + 1) text))) (ap (λ xs. starts_with nat_eq xs (codes "*/")) (sym whole) ∙ e)

-- a byte more that doesn't end it
pub comment_more : (text : List ℕ) (at : ℕ) → at < length text → starts_with nat_eq (drop at text) (codes "*/") ≡ false
    → spec.comment_rest text ≡ option_map (λ n. n + at) (spec.comment_rest (drop at text)) → spec.comment_rest text ≡ option_map (λ n. n + (at + 1)) (spec.comment_rest (drop (at + 1) text))
comment_more text at l e i = i ∙ ap (option_map (λ n. n + at)) (comment_step text at l e) ∙ go (spec.comment_rest (drop (at + 1) text))
  where
    go : (o : Option ℕ) → option_map (λ n. n + at) (option_map (λ n. n + 1) o) ≡ option_map (λ n. n + (at + 1)) o
    go None = refl
    go (Some n) = ap (λ k. Some k) (omega arith)

-- its end
pub comment_ends : (text : List ℕ) (at : ℕ) → at < length text → starts_with nat_eq (drop at text) (codes "*/") ≡ true
    → spec.comment_rest text ≡ option_map (λ n. n + at) (spec.comment_rest (drop at text)) → Some (at + 2) ≡ spec.comment_rest text
comment_ends text at l e i = ap (λ k. Some k) (omega arith) ∙ sym (i ∙ ap (option_map (λ n. n + at)) (comment_here text at l e))

pub comment_open : (text : List ℕ) (at : ℕ) → length text ≤ at → spec.comment_rest text ≡ option_map (λ n. n + at) (spec.comment_rest (drop at text)) → None ≡ spec.comment_rest text
comment_open text at l i = sym (i ∙ ap (λ xs. option_map (λ n. n + at) (spec.comment_rest xs)) (drop_all at text l))

pub long_enough : (xs ys : List ℕ) → starts_with nat_eq xs ys ≡ true → length ys ≤ length xs
long_enough xs [] e = omega arith
long_enough [] (y ∷ ys) e = absurd (cc)
long_enough (x ∷ xs) (y ∷ ys) e = let l = long_enough xs ys (second (nat_eq y x) (starts_with nat_eq xs ys) e) in omega (arith, l)
  where
    second : (p q : Bool) → (p && q) ≡ true → q ≡ true
    second true q d = d
    second false q d = cc

-- ---- words

any_append : (p : List ℕ → Bool) (xs ys : List (List ℕ)) → list_any p (xs ++ ys) ≡ (list_any p xs || list_any p ys)
any_append p [] ys = refl
any_append p (x ∷ xs) ys = ap (λ b. p x || b) (any_append p xs ys) ∙ regroup (p x) (list_any p xs) (list_any p ys)
  where
    regroup : (a b c : Bool) → (a || (b || c)) ≡ ((a || b) || c)
    regroup true b c = refl
    regroup false b c = refl

pub word_parts : (w : List ℕ) → (list_any (same_name w) words_to_c || (list_any (same_name w) words_to_g || (list_any (same_name w) words_to_o || list_any (same_name w) words_to_x))) ≡ spec.is_promela_word w
word_parts w =
    sym (any_append (same_name w) words_to_c (words_to_g ++ (words_to_o ++ words_to_x))
    ∙ ap (λ b. list_any (same_name w) words_to_c || b) (any_append (same_name w) words_to_g (words_to_o ++ words_to_x)
    ∙ ap (λ b. list_any (same_name w) words_to_g || b) (any_append (same_name w) words_to_o words_to_x)))

-- the halves
pub first_half : (w : List ℕ) → (list_any (same_name w) words_to_c || list_any (same_name w) words_to_g) ≡ true → true ≡ spec.is_promela_word w
first_half w e = go (list_any (same_name w) words_to_c) (list_any (same_name w) words_to_g) e ∙ word_parts w
  where
    go : (a c : Bool) → (a || c) ≡ true → true ≡ (a || (c || (list_any (same_name w) words_to_o || list_any (same_name w) words_to_x)))
    go true c e = refl
    go false true e = refl
    go false false e = cc

pub second_half : (w : List ℕ) → (list_any (same_name w) words_to_c || list_any (same_name w) words_to_g) ≡ false
    → (list_any (same_name w) words_to_o || list_any (same_name w) words_to_x) ≡ spec.is_promela_word w
second_half w e = go (list_any (same_name w) words_to_c) (list_any (same_name w) words_to_g) e ∙ word_parts w
  where
    go : (a c : Bool) → (a || c) ≡ false
        → (list_any (same_name w) words_to_o || list_any (same_name w) words_to_x) ≡ (a || (c || (list_any (same_name w) words_to_o || list_any (same_name w) words_to_x)))
    go true c e = cc
    go false true e = cc
    go false false e = refl

-- ---- signs

pub sign_same : (b : ℕ) (bs : List ℕ)
    → unwrap_or (option_map (λ s. (s.1, length s.0)) (find (λ s. starts_with nat_eq (b ∷ bs) s.0) spec.claim_signs)) (spec.Foreign, 1) ≡ sign_of b (slice_index bs 0)
sign_same b [] = refl
sign_same b (c ∷ bs) = refl

-- ---- the first token

pub blank_found : (xs : List ℕ) → 0 < length xs → is_blank (slice_index xs 0) ≡ true → AreFound xs None 1
blank_found [] l e = absurd (omega arith)
blank_found (b ∷ bs) l e = rw e refl

module _ (b : ℕ) (bs : List ℕ) (blank : is_blank b ≡ false) where
  commented : starts_with nat_eq (b ∷ bs) (codes "/*") ≡ true → spec.first_found b bs ≡ unwrap_or (option_map (λ n. ([], n + 2)) (spec.comment_rest (drop 1 bs))) (spec.Foreign ∷ [], 1)
  commented e = rw (blank, e) refl

  -- the list of one token
  listed : (starts_with nat_eq (b ∷ bs) (codes "/*") ≡ false) → spec.first_found b bs ≡ ((visible_first b bs).0 ∷ [], (visible_first b bs).1)
  listed e = rw (blank, e) (go (is_digit b) (begins_identifier b))
    where
      one : ClaimToken × ℕ → List ClaimToken × ℕ
      one q = (q.0 ∷ [], q.1)

      found : (o : Option (List ℕ × ClaimToken)) → unwrap_or (option_map (λ s. (s.1 ∷ [], length s.0)) o) (spec.Foreign ∷ [], 1) ≡ one (unwrap_or (option_map (λ s. (s.1, length s.0)) o) (spec.Foreign, 1))
      found None = refl
      found (Some s) = refl

      digits : List ℕ
      digits = take_while is_digit (b ∷ bs)

      word : List ℕ
      word = take_while spec.is_word_byte (b ∷ bs)

      go : (d i : Bool)
          → (if d then (spec.listed_or spec.Foreign digits ∷ [], length digits) else
          if i then (spec.listed_or (if spec.is_promela_word word then spec.Foreign else spec.Word word) word ∷ [], length word) else
          unwrap_or (option_map (λ s. (s.1 ∷ [], length s.0)) (find (λ s. starts_with nat_eq (b ∷ bs) s.0) spec.claim_signs)) (spec.Foreign ∷ [], 1))
          ≡ one (if d then (spec.listed_or spec.Foreign digits, length digits) else
          if i then (spec.listed_or (if spec.is_promela_word word then spec.Foreign else spec.Word word) word, length word) else sign_of b (slice_index bs 0))
      go true i = refl
      go false true = refl
      go false false = found (find (λ s. starts_with nat_eq (b ∷ bs) s.0) spec.claim_signs) ∙ ap one (sign_same b bs)

-- a comment
pub comment_found : (xs : List ℕ) (n : ℕ) → is_blank (slice_index xs 0) ≡ false → starts_with nat_eq xs (codes "/*") ≡ true → Some n ≡ spec.comment_rest (drop 2 xs) → AreFound xs None (n + 2)
comment_found [] n k e f = cc
comment_found (b ∷ bs) n k e f = commented b bs k e ∙ ap (λ (o : Option ℕ). unwrap_or (option_map (λ m. ([], m + 2)) o) (spec.Foreign ∷ [], 1)) (sym f)

pub open_comment_found : (xs : List ℕ) → is_blank (slice_index xs 0) ≡ false → starts_with nat_eq xs (codes "/*") ≡ true → None ≡ spec.comment_rest (drop 2 xs) → AreFound xs (Some Broken) 1
open_comment_found [] k e f = cc
open_comment_found (b ∷ bs) k e f = (
  commented b bs k e ∙ ap (λ (o : Option ℕ). unwrap_or (option_map (λ m. ([], m + 2)) o) (spec.Foreign ∷ [], 1)) (sym f),
  ap (λ c. if c then items.Broken else if spec.is_word_byte b || items.begins_sign b then items.Known else items.Broken) e,
)

-- ---- what is visible

-- a sign
pub visible_sign : (xs : List ℕ) (c : ℕ) → 0 < length xs → c ≡ slice_index xs 1 → is_digit (slice_index xs 0) ≡ false → begins_identifier (slice_index xs 0) ≡ false
    → (visible_of xs ≡ sign_of (slice_index xs 0) c) × (visible_tell xs ≡ tell_sign (slice_index xs 0) c)
visible_sign [] c l s d i = absurd (omega arith)
visible_sign (b ∷ bs) c l s d i = (rw (d, i) (ap (sign_of b) (sym s)), rw (d, i) (ap (tell_sign b) (sym s)))

-- neither `!` nor a separator
abbrev is_wordy : ClaimToken → Bool
is_wordy spec.NotSign = false
is_wordy spec.Separator = false
is_wordy t = true

wordy_listed : (p : List ℕ × ClaimToken → Bool) (ws : List (List ℕ × ClaimToken)) (other : ClaimToken) → list_all (λ (w : List ℕ × ClaimToken). is_wordy w.1) ws ≡ true → is_wordy other ≡ true
    → is_wordy (unwrap_or (option_map (λ (w : List ℕ × ClaimToken). w.1) (find p ws)) other) ≡ true
wordy_listed p [] other a o = o
wordy_listed p (w ∷ ws) other a o = go (p w) (both (is_wordy w.1) (list_all (λ (v : List ℕ × ClaimToken). is_wordy v.1) ws) a) (λ b. wordy_listed p ws other b o)
  where
    both : (x y : Bool) → (x && y) ≡ true → (x ≡ true) × (y ≡ true)
    both true y e = (refl, e)
    both false y e = cc

    go : (c : Bool) → (is_wordy w.1 ≡ true) × (list_all (λ (v : List ℕ × ClaimToken). is_wordy v.1) ws ≡ true)
        → (list_all (λ (v : List ℕ × ClaimToken). is_wordy v.1) ws ≡ true → is_wordy (unwrap_or (option_map (λ (v : List ℕ × ClaimToken). v.1) (find p ws)) other) ≡ true)
        → is_wordy (unwrap_or (option_map (λ (v : List ℕ × ClaimToken). v.1) (if c then Some w else find p ws)) other) ≡ true
    go true (x, y) rest = x
    go false (x, y) rest = rest y

wordy_word : (other : ClaimToken) (word : List ℕ) → is_wordy other ≡ true → is_wordy (spec.listed_or other word) ≡ true
wordy_word other word o = wordy_listed (λ w. same_name word w.0) spec.claim_words other refl o

-- of a word or a number
wordy_tell : (b : ℕ) (bs : List ℕ) (t : ClaimToken) → starts_with nat_eq (b ∷ bs) (codes "/*") ≡ false → spec.is_word_byte b ≡ true → is_wordy t ≡ true → items.tell_of b bs t ≡ foreign_tell t
wordy_tell b bs spec.Foreign e w o = rw (e, w) refl
wordy_tell b bs spec.NotSign e w o = cc
wordy_tell b bs spec.Separator e w o = cc
wordy_tell b bs t e w o = refl

-- of a sign
sign_told : (b : ℕ) (bs : List ℕ) (t : ClaimToken) → starts_with nat_eq (b ∷ bs) (codes "/*") ≡ false → spec.is_word_byte b ≡ false → items.tell_of b bs t ≡ sign_tell b (slice_index bs 0) t
sign_told b bs spec.Foreign e w = rw (e, w) refl
sign_told b [] spec.NotSign e w = refl
sign_told b (c ∷ bs) spec.NotSign e w = refl
sign_told b bs t e w = refl

-- the first token that is visible
pub visible_is : (xs : List ℕ) (n : ℕ) (k : TokenKind) → 0 < length xs → is_blank (slice_index xs 0) ≡ false → starts_with nat_eq xs (codes "/*") ≡ false
    → token_of (take n xs) k ≡ (visible_of xs).0 → n ≡ (visible_of xs).1 → tell_of k ≡ visible_tell xs → AreFound xs (Some k) n
visible_is [] n k l blank e t m o = absurd (omega arith)
visible_is (b ∷ bs) n k l blank e t m o = (
  listed b bs blank e ∙ pair (sym t) (sym m),
  ap (items.tell_of b bs) t ∙ told (is_digit b) (begins_identifier b) refl refl ∙ sym o,
)
  where
    pair : {t u : ClaimToken} {m n : ℕ} → t ≡ u → m ≡ n → ◌≡◌ {A = List ClaimToken × ℕ} (t ∷ [], m) (u ∷ [], n)
    pair e f = λ i. (e i ∷ [], f i)

    promela : (c : Bool) (w : List ℕ) → is_wordy (if c then spec.Foreign else spec.Word w) ≡ true
    promela true w = refl
    promela false w = refl

    digits : List ℕ
    digits = take_while is_digit (b ∷ bs)

    word : List ℕ
    word = take_while spec.is_word_byte (b ∷ bs)

    number : ClaimToken × ℕ
    number = (spec.listed_or spec.Foreign digits, length digits)

    named : ClaimToken × ℕ
    named = (spec.listed_or (if spec.is_promela_word word then spec.Foreign else spec.Word word) word, length word)

    sign : ClaimToken × ℕ
    sign = sign_of b (slice_index bs 0)

    wordy : Tell
    wordy = foreign_tell (visible_first b bs).0

    other : Tell
    other = tell_sign b (slice_index bs 0)

    or_true : (a : Bool) → (a || true) ≡ true
    or_true true = refl
    or_true false = refl

    told : (d i : Bool) → is_digit b ≡ d → begins_identifier b ≡ i → items.tell_of b bs (visible_first b bs).0 ≡ visible_tell (b ∷ bs)
    told true i f g =
        let first : visible_first b bs ≡ number = ap (λ c. if c then number else if begins_identifier b then named else sign) f in
        let tell : visible_tell (b ∷ bs) ≡ wordy = ap (λ c. if c || begins_identifier b then wordy else other) f in
        let byte : spec.is_word_byte b ≡ true = ap (λ c. begins_identifier b || c) f ∙ or_true (begins_identifier b) in
        ap (λ (q : ClaimToken × ℕ). items.tell_of b bs q.0) first ∙ wordy_tell b bs number.0 e byte (wordy_word spec.Foreign digits refl)
        ∙ ap (λ (q : ClaimToken × ℕ). foreign_tell q.0) (sym first) ∙ sym tell
    told false true f g =
        let first : visible_first b bs ≡ named = ap (λ c. if c then number else if begins_identifier b then named else sign) f ∙ ap (λ c. if c then named else sign) g in
        let tell : visible_tell (b ∷ bs) ≡ wordy = ap (λ c. if c || begins_identifier b then wordy else other) f ∙ ap (λ c. if c then wordy else other) g in
        let byte : spec.is_word_byte b ≡ true = ap (λ c. c || is_digit b) g in
        ap (λ (q : ClaimToken × ℕ). items.tell_of b bs q.0) first
        ∙ wordy_tell b bs named.0 e byte (wordy_word (if spec.is_promela_word word then spec.Foreign else spec.Word word) word (promela (spec.is_promela_word word) word))
        ∙ ap (λ (q : ClaimToken × ℕ). foreign_tell q.0) (sym first) ∙ sym tell
    told false false f g =
        let first : visible_first b bs ≡ sign = ap (λ c. if c then number else if begins_identifier b then named else sign) f ∙ ap (λ c. if c then named else sign) g in
        let tell : visible_tell (b ∷ bs) ≡ other = ap (λ c. if c || begins_identifier b then wordy else other) f ∙ ap (λ c. if c then wordy else other) g in
        let byte : spec.is_word_byte b ≡ false = ap (λ c. c || is_digit b) g ∙ f in
        ap (λ (q : ClaimToken × ℕ). items.tell_of b bs q.0) first ∙ sign_told b bs sign.0 e byte ∙ sym tell

-- a sign of two bytes has a second one
pub sign_short : (xs : List ℕ) (c n : ℕ) → 0 < length xs → c ≡ slice_index xs 1 → n ≤ (if nat_eq c 0 then 1 else 2) → n ≤ length xs
sign_short [] c n l s k = absurd (omega arith)
sign_short (b ∷ []) c n l s k = subst (λ d. n ≤ (if nat_eq d 0 then 1 else 2)) s k
sign_short (b ∷ d ∷ bs) c n l s k = two (nat_eq c 0) k
  where
    two : (z : Bool) → n ≤ (if z then 1 else 2) → n ≤ length (b ∷ d ∷ bs)
    two true h = omega (arith, h)
    two false h = omega (arith, h)
