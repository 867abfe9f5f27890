-- What is found from positions on, 64 at a time.
use Rattle.std.proofs.Common.{◌≡◌, ◌∙◌, ap, ap₂, sym, refl, subst, ℕ, zero, suc, ◌+◌, ◌-◌, ◌*◌, ◌/◌, ◌%◌, ◌<◌, ◌≤◌, arith, Bool, true, false, not, ◌||◌, ◌&&◌, inl, inr, nat_eq, List, length}
use Rattle.std.specs.Prelude.{IsTrue, ◌≢◌, slice_index, slice_set}
use Rattle.std.specs.Bool.{Decides, beq}
use Rattle.std.proofs.lemmas.Bool.{cases_eq}
use Rattle.std.proofs.lemmas.List.{get_or-set_same, get_or-set_other}
use Rattle.std.proofs.lemmas.Bool.Decides.{nat_tests}
use Rattle.ltl_spec.specs.Semantics.Satisfaction.{HoldsUntil}
use Rattle.ltl_word.specs.Rows.{back, bit_of, is_set, step_of, turned, IsBackRow, IsBackWord, IsWordOf}
use Rattle.ltl_word.proofs.BackLaws.{cycle_decides, back_decides}

abbrev pub never : ℕ → Bool
never j = false

-- the right ones, and the place 63 where the left one holds there and a later value does
abbrev pub with_later : (ℕ → Bool) → (ℕ → Bool) → Bool → ℕ → Bool
with_later left right later j = right j || left j && (nat_eq j 63 && later)

-- in two pieces
pub back_split : (left right : ℕ → Bool) (a b i : ℕ) (later : Bool) → back left right (a + b) i later ≡ back left right a i (back left right b (i + a) later)
back_split left right zero b i later =
    let e : zero + b ≡ b = omega arith in
    let f : i ≡ i + zero = omega arith in
    ap (λ k. back left right k i later) e ∙ ap (λ j. back left right b j later) f
back_split left right (suc a) b i later =
    let e : suc a + b ≡ suc (a + b) = omega arith in
    let f : i + 1 + a ≡ i + suc a = omega arith in
    ap (λ k. back left right k i later) e
    ∙ ap (λ t. right i || left i && t) (back_split left right a b (i + 1) later ∙ ap (λ j. back left right a (i + 1) (back left right b j later)) f)

one_more : (r l x e t : Bool) → (r || l && (x || e && t)) ≡ ((r || l && x) || (false || l && e) && t)
one_more true l x e t = refl
one_more false true x e t = refl
one_more false false x e t = refl

-- a later value counts where the left ones hold until then
pub back_later : (left right : ℕ → Bool) (a i : ℕ) (later : Bool) → back left right a i later ≡ (back left right a i false || back left never a i true && later)
back_later left right zero i later = refl
back_later left right (suc a) i later =
    ap (λ t. right i || left i && t) (back_later left right a (i + 1) later) ∙ one_more (right i) (left i) (back left right a (i + 1) false) (back left never a (i + 1) true) later

none : (s t : Bool) → t ≡ false → (false || s && t) ≡ false
none true t e = e
none false t e = refl

-- nothing comes
never_comes : (left : ℕ → Bool) (a i : ℕ) → back left never a i false ≡ false
never_comes left zero i = refl
never_comes left (suc a) i = none (left i) (back left never a (i + 1) false) (never_comes left a (i + 1))

-- what comes in twice as many positions
pub comes_twice : (left right : ℕ → Bool) (a i : ℕ) → back left right (a + a) i false ≡ (back left right a i false || back left never a i true && back left right a (i + a) false)
comes_twice left right a i = back_split left right a a i false ∙ back_later left right a i (back left right a (i + a) false)

-- what holds at twice as many positions
pub holds_twice : (left : ℕ → Bool) (a i : ℕ) → back left never (a + a) i true ≡ (back left never a i true && back left never a (i + a) true)
holds_twice left a i =
    back_split left never a a i true ∙ back_later left never a i (back left never a (i + a) true)
    ∙ ap (λ t. t || back left never a i true && back left never a (i + a) true) (never_comes left a i)

-- nothing comes at places where nothing is set
above : (left right : ℕ → Bool) (n : ℕ) → ((j : ℕ) → n ≤ j → left j ≡ false) → ((j : ℕ) → n ≤ j → right j ≡ false) → (k i : ℕ) → n ≤ i → back left right k i false ≡ false
above left right n l r zero i m = refl
above left right n l r (suc k) i m = ap₂ (λ s t. s || t && back left right k (i + 1) false) (r i m) (l i m)

-- the same values at other positions
pub back_same : (left right left' right' : ℕ → Bool) (d k i : ℕ) (later : Bool) → ((j : ℕ) → i ≤ j → j < i + k → left j ≡ left' (d + j)) → ((j : ℕ) → i ≤ j → j < i + k → right j ≡ right' (d + j))
    → back left right k i later ≡ back left' right' k (d + i) later
back_same left right left' right' d zero i later l r = refl
back_same left right left' right' d (suc k) i later l r =
    let e : d + (i + 1) ≡ d + i + 1 = omega arith in
    ap₂ (λ s t. s || t && back left right k (i + 1) later) (r i (omega arith) (omega arith)) (l i (omega arith) (omega arith))
    ∙ ap (λ t. right' (d + i) || left' (d + i) && t) (back_same left right left' right' d k (i + 1) later (λ j m n. l j (omega arith) (omega arith)) (λ j m n. r j (omega arith) (omega arith))
    ∙ ap (λ j. back left' right' k j later) e)

-- all 64 places ahead are enough
pub word_ahead : (left right : ℕ → Bool) (ahead k : ℕ) → ((j : ℕ) → 64 ≤ j → left j ≡ false) → ((j : ℕ) → 64 ≤ j → right j ≡ false) → 64 ≤ ahead → k < 64
    → back left right ahead k false ≡ back left right (64 - k) k false
word_ahead left right ahead k l r m n =
    let e : ahead ≡ (64 - k) + (ahead - (64 - k)) = omega arith in
    let f : k + (64 - k) ≡ 64 = omega arith in
    ap (λ a. back left right a k false) e ∙ back_split left right (64 - k) (ahead - (64 - k)) k false
    ∙ ap (back left right (64 - k) k) (ap (λ j. back left right (ahead - (64 - k)) j false) f ∙ above left right 64 l r (ahead - (64 - k)) 64 (omega arith))

last_or : (r l t : Bool) → ((r || l && t) || l && false) ≡ (r || l && t)
last_or true l t = refl
last_or false true true = refl
last_or false true false = refl
last_or false false t = refl

no_other : (r l t : Bool) → (r || l && (false && t)) ≡ r
no_other true l t = refl
no_other false true t = refl
no_other false false t = refl

-- a value that holds behind the last place, put there
pub word_later : (left right : ℕ → Bool) (k : ℕ) (later : Bool) → k < 64 → back left (with_later left right later) (64 - k) k false ≡ back left right (64 - k) k later
word_later left right k later l =
    let e : 64 - k ≡ (63 - k) + 1 = omega arith in
    let f : k + (63 - k) ≡ 63 = omega arith in
    let z : 0 + k ≡ k = omega arith in
    let more = with_later left right later in
    ap (λ a. back left more a k false) e ∙ back_split left more (63 - k) 1 k false
    ∙ ap (λ j. back left more (63 - k) k (back left more 1 j false)) f
    ∙ ap (back left more (63 - k) k) (last_or (right 63) (left 63) later)
    ∙ back_same left more left right 0 (63 - k) k (back left right 1 63 later) (λ j a b. let y : j ≡ 0 + j = omega arith in ap left y)
    (λ j a b. let y : j ≡ 0 + j = omega arith in ap (λ t. right j || left j && (t && later)) (other j (omega arith)) ∙ no_other (right j) (left j) later ∙ ap right y)
    ∙ ap (λ i. back left right (63 - k) i (back left right 1 63 later)) z
    ∙ ap (λ j. back left right (63 - k) k (back left right 1 j later)) (sym f) ∙ sym (back_split left right (63 - k) 1 k later) ∙ ap (λ a. back left right a k later) (sym e)
  where
    other : (j : ℕ) → j < 63 → nat_eq j 63 ≡ false
    other j b = grind (arith, nat_tests)

-- the beginning: one place ahead
pub one_place : (left : ℕ → Bool) (i : ℕ) → left i ≡ back left never 1 i true
one_place left i = sym (all (left i))
  where
    all : (s : Bool) → (false || s && true) ≡ s
    all true = refl
    all false = refl

pub one_comes : (left right more : ℕ → Bool) (later : Bool) (i : ℕ) → more i ≡ with_later left right later i → more i ≡ back left (with_later left right later) 1 i false
one_comes left right more later i e = e ∙ sym (all (with_later left right later i) (left i))
  where
    all : (s t : Bool) → (s || t && false) ≡ s
    all true t = refl
    all false true = refl
    all false false = refl

-- 64 positions before others
pub back_word : (left right : ℕ → Bool) (count start l r old new : ℕ) (later next : Bool) → IsBackWord left right count later (start + 64) old → next ≡ is_set old 0 → start + 64 ≤ count → IsWordOf left start l → IsWordOf right start r
    → ((j : ℕ) → j < 64 → is_set new j ≡ back (is_set l) (is_set r) (64 - j) j next) → IsBackWord left right count later start new
back_word left right count start l r old new later next behind e within lefts rights h j m n =
    let split : count - (start + j) ≡ (64 - j) + (count - (start + 64)) = omega arith in
    let end : start + j + (64 - j) ≡ start + 64 = omega arith in
    let zero_more : start + 64 + 0 ≡ start + 64 = omega arith in
    let value : next ≡ back left right (count - (start + 64)) (start + 64) later = e ∙ behind 0 (omega arith) (omega arith) ∙ ap (λ i. back left right (count - i) i later) zero_more in
    h j m ∙ back_same (is_set l) (is_set r) left right start (64 - j) j next (λ i a b. lefts i (omega arith)) (λ i a b. rights i (omega arith))
    ∙ ap (back left right (64 - j) (start + j)) (value ∙ ap (λ i. back left right (count - (start + 64)) i later) (sym end))
    ∙ sym (back_split left right (64 - j) (count - (start + 64)) (start + j) later) ∙ ap (λ k. back left right k (start + j) later) (sym split)

-- the last positions, with a value behind them
pub back_last : (left right : ℕ → Bool) (count start place l r l' r' new : ℕ) (later : Bool) → start + place ≡ count → place < 64 → IsWordOf left start l → IsWordOf right start r
    → is_set l' place ≡ false → ((j : ℕ) → j < 64 → j ≢ place → is_set l' j ≡ is_set l j) → is_set r' place ≡ later → ((j : ℕ) → j < 64 → j ≢ place → is_set r' j ≡ is_set r j)
    → ((j : ℕ) → j < 64 → is_set new j ≡ back (is_set l') (is_set r') (64 - j) j false) → IsBackWord left right count later start new
back_last left right count start place l r l' r' new later e p lefts rights lh lo rh ro h j m n =
    let split : 64 - j ≡ (place - j) + (64 - place) = omega arith in
    let end : j + (place - j) ≡ place = omega arith in
    let one : 64 - place ≡ suc (63 - place) = omega arith in
    let size : place - j ≡ count - (start + j) = omega arith in
    let value : back (is_set l') (is_set r') (64 - place) place false ≡ later =
    ap (λ k. back (is_set l') (is_set r') k place false) one ∙ ap₂ (λ s t. s || t && back (is_set l') (is_set r') (63 - place) (place + 1) false) rh lh ∙ plain later in
    h j m ∙ ap (λ k. back (is_set l') (is_set r') k j false) split ∙ back_split (is_set l') (is_set r') (place - j) (64 - place) j false
    ∙ ap (back (is_set l') (is_set r') (place - j) j) (ap (λ i. back (is_set l') (is_set r') (64 - place) i false) end ∙ value)
    ∙ back_same (is_set l') (is_set r') left right start (place - j) j later (λ i a b. lo i (omega arith) (λ q. omega arith) ∙ lefts i (omega arith)) (λ i a b. ro i (omega arith) (λ q. omega arith) ∙ rights i (omega arith))
    ∙ ap (λ k. back left right k (start + j) later) size
  where
    plain : (s : Bool) → (s || false) ≡ s
    plain true = refl
    plain false = refl

pub turned_twice : (negated t : Bool) → turned negated (turned negated t) ≡ t
turned_twice true true = refl
turned_twice true false = refl
turned_twice false true = refl
turned_twice false false = refl

-- a row with 64 positions more
pub row_word : (negated : Bool) (f : ℕ → Bool) (count k word turn : ℕ) (row : List ℕ) → k < length row
    → ((j : ℕ) → j < 64 → k * 64 + j ≤ count → is_set word j ≡ f (k * 64 + j)) → ((j : ℕ) → j < 64 → is_set turn j ≡ turned negated (is_set word j))
    → ((i : ℕ) → k * 64 + 64 ≤ i → i < count → turned negated (bit_of row i) ≡ f i)
    → (i : ℕ) → k * 64 ≤ i → i < count → turned negated (bit_of (slice_set row k turn) i) ≡ f i
row_word negated f count k word turn row l w t old i m n = elim (cases_eq (i / 64) k) [
  | inl e ↦
      let place : k * 64 + i % 64 ≡ i = omega arith in
      ap (λ q. turned negated (is_set (slice_at q) (i % 64))) e
      ∙ ap (λ v. turned negated (is_set v (i % 64))) (get_or-set_same row k turn 0 l)
      ∙ ap (turned negated) (t (i % 64) (omega arith)) ∙ turned_twice negated (is_set word (i % 64)) ∙ w (i % 64) (omega arith) (omega arith) ∙ ap f place
  | inr d ↦ ap (λ v. turned negated (is_set v (i % 64))) (get_or-set_other row k (i / 64) turn 0 d) ∙ old i (omega arith) n
]
  where
    slice_at : ℕ → ℕ
    slice_at q = slice_index (slice_set row k turn) q

-- a row whose value behind the end is that of the cycle's beginning
pub until_row : (left right : ℕ → Bool) (negated : Bool) (stem count : ℕ) (turn : Bool) (row : List ℕ) → stem < count → turn ≡ back left right (count - stem) stem false → IsBackRow negated left right count turn row
    → (length row ≡ count / 64 + 1)
    × ((j : ℕ) → j < count → Decides (turned negated (bit_of row j)) (HoldsUntil (step_of stem count) (λ k. IsTrue (left k)) (λ k. IsTrue (right k)) j))
until_row left right negated stem count turn row c e h = (
  h.0,
  λ j l.
      let split : count - j ≡ suc (count - j - 1) = omega arith in
      let place : j + suc (count - j - 1) ≡ count = omega arith in
      let same : turned negated (bit_of row j) ≡ back left right (suc (count - j - 1)) j turn = h.1 j l ∙ ap (λ k. back left right k j turn) split in
      let d = back_decides left right stem count c turn (subst (λ t. Decides t (HoldsUntil (step_of stem count) (λ k. IsTrue (left k)) (λ k. IsTrue (right k)) stem)) (sym e) (cycle_decides left right stem count c)) (count - j - 1) j place in
      ((λ t. d.0 (sym same ∙ t)), λ u. same ∙ d.1 u),
)

-- what the value at the cycle's beginning tells
pub turn_false : (left right : ℕ → Bool) (negated : Bool) (stem count : ℕ) (row : List ℕ) → stem < count → IsBackRow negated left right count false row → bit_of row stem ≡ negated → false ≡ back left right (count - stem) stem false
turn_false left right negated stem count row c h e = sym (same negated) ∙ ap (turned negated) (sym e) ∙ h.1 stem c
  where
    same : (s : Bool) → turned s s ≡ false
    same true = refl
    same false = refl

pub turn_true : (left right : ℕ → Bool) (negated : Bool) (stem count : ℕ) (row : List ℕ) → stem < count → IsBackRow negated left right count false row → beq (bit_of row stem) negated ≡ false → true ≡ back left right (count - stem) stem false
turn_true left right negated stem count row c h e = sym (ap not e) ∙ h.1 stem c
