-- The members of a bit set, and the literals of a cube, are sorted.
use Rattle.std.proofs.Common.{◌≡◌, ◌∙◌, ap, ℕ, zero, suc, ◌+◌, ◌<◌, ◌≤◌, arith, Bool, true, false, ◌⊎◌, inl, inr, List, ◌∷◌}
use Rattle.std.specs.declared.cmp.Ordering.TheVariants.{Less, Equal}
use Rattle.std.specs.Ordering.{nat_cmp, bool_cmp, flip_args, ordering_then}
use Rattle.std.specs.List.{AllByRecursion, range_with_len, filter}
use Rattle.std.proofs.lemmas.Bool.Decides.{nat_tests}
use Rattle.ltl_spec.specs.Collections.Sets.{Has, IsRising, has}
use Rattle.ltl_spec.specs.Transitions.Cubes.{Literal, literal_cmp}
use Rattle.ltl_spec.proofs.Collections.SetLaws.{all_from, filter_cases}
use Rattle.ltl_spec.proofs.Collections.Orders.{nat_linear, literal_linear}
use Rattle.ltl_sets.specs.Words.{IsWords, bit_in, places, members, literals_from, signed_places, literal_in, literals, words_with, words_with_literals}
use Rattle.ltl_sets.specs.SubsetLaws.{has_test, IsRising-subset}
use Rattle.ltl_sets.specs.WordLaws.{same_words, IsWords-words_of, bit_in-words_of}
use Rattle.ltl_sets.specs.declared.row_set.TheConstants.RowSet.{LIMIT}

-- ---- numbers

pub less : (x y : ℕ) → x < y → nat_cmp x y ≡ Less
less x y h = grind (arith, nat_tests)

pub below : (x y : ℕ) → nat_cmp x y ≡ Less → x < y
below x y e = grind (arith, nat_tests)

range_cases : (a n z : ℕ) → Has (range_with_len a n) z → (a ≤ z) × (z < a + n)
range_cases a zero z h = absurd h
range_cases a (suc n) z (inl e) = (omega arith, omega arith)
range_cases a (suc n) z (inr h) = let r = range_cases (a + 1) n z h in (omega arith, omega arith)

first_or_later : (a z : ℕ) → a ≤ z → (z ≡ a) ⊎ (a + 1 ≤ z)
first_or_later a z h = grind arith

pub Has-range : (a n z : ℕ) → a ≤ z → z < a + n → Has (range_with_len a n) z
Has-range a zero z l h = absurd (omega arith)
Has-range a (suc n) z l h = elim (first_or_later a z l) [ inl e ↦ inl e | inr m ↦ inr (Has-range (a + 1) n z m (omega arith)) ]

pub IsRising-range : (a n : ℕ) → IsRising nat_cmp (range_with_len a n)
IsRising-range a zero = tt
IsRising-range a (suc n) =
    (all_from (λ z. nat_cmp a z ≡ Less) (range_with_len (a + 1) n) (λ z h. less a z (let r = range_cases (a + 1) n z h in omega arith)), IsRising-range (a + 1) n)

pub places_rise : IsRising nat_cmp places
unfolding places
places_rise = IsRising-range 0 LIMIT

pub Has-places : (i : ℕ) → i < LIMIT → Has places i
unfolding places
Has-places i h = Has-range 0 LIMIT i (omega arith) h

pub places_below : (i : ℕ) → Has places i → i < LIMIT
unfolding places
places_below i h = (range_cases 0 LIMIT i h).1

-- ---- members

pub members_rise : (ws : List ℕ) → IsRising nat_cmp (members ws)
unfolding members
members_rise ws = IsRising-subset nat_linear places places_rise (bit_in ws)

pub members_below : (ws : List ℕ) → AllByRecursion (λ i. i < LIMIT) (members ws)
unfolding members
members_below ws = all_from (λ i. i < LIMIT) (filter (bit_in ws) places) (λ z h. places_below z (filter_cases (bit_in ws) places z h).0)

pub has_members : (ws : List ℕ) (i : ℕ) → i < LIMIT → has nat_cmp i (members ws) ≡ bit_in ws i
unfolding members
has_members ws i h = has_test nat_linear places places_rise i (bit_in ws) (Has-places i h)

pub words_again : (ws : List ℕ) → IsWords ws → words_with (members ws) ≡ ws
words_again ws one =
    same_words (words_with (members ws)) ws (IsWords-words_of (λ i. has nat_cmp i (members ws))) one
    (λ i h. bit_in-words_of (λ i. has nat_cmp i (members ws)) i h ∙ has_members ws i h)

-- ---- literals

pub signed_less : (l m : Literal) → l.proposition < m.proposition → literal_cmp l m ≡ Less
signed_less l m h = ap (λ o. ordering_then o (flip_args bool_cmp l.positive m.positive)) (less l.proposition m.proposition h)

literals_cases : (a n : ℕ) (l : Literal) → Has (literals_from a n) l → (a ≤ l.proposition) × (l.proposition < a + n)
literals_cases a zero l h = absurd h
literals_cases a (suc n) l (inl e) = let p = ap (λ (m : Literal). m.proposition) e in (omega arith, omega arith)
literals_cases a (suc n) l (inr (inl e)) = let p = ap (λ (m : Literal). m.proposition) e in (omega arith, omega arith)
literals_cases a (suc n) l (inr (inr h)) = let r = literals_cases (a + 1) n l h in (omega arith, omega arith)

abbrev pub literal : ℕ → Bool → Literal
literal p s = record { proposition = p; positive = s }

both_signs : (p a : ℕ) (s : Bool) (ls : List Literal) → p ≡ a → Has (literal a true ∷ literal a false ∷ ls) (literal p s)
both_signs p a true ls e = inl (λ i. record { proposition = e i; positive = true })
both_signs p a false ls e = inr (inl (λ i. record { proposition = e i; positive = false }))

Has-literals : (a n p : ℕ) (s : Bool) → a ≤ p → p < a + n → Has (literals_from a n) (literal p s)
Has-literals a zero p s l h = absurd (omega arith)
Has-literals a (suc n) p s l h =
    elim (first_or_later a p l) [ inl e ↦ both_signs p a s (literals_from (a + 1) n) e | inr m ↦ inr (inr (Has-literals (a + 1) n p s m (omega arith))) ]

level : (a : ℕ) → nat_cmp a a ≡ Equal
level a = grind (arith, nat_tests)

pub positive_first : (a : ℕ) → literal_cmp (literal a true) (literal a false) ≡ Less
positive_first a = ap (λ o. ordering_then o Less) (level a)

literals_rise : (a n : ℕ) → IsRising literal_cmp (literals_from a n)
literals_rise a zero = tt
literals_rise a (suc n) =
    let above : (s : Bool) → AllByRecursion (λ m. literal_cmp (literal a s) m ≡ Less) (literals_from (a + 1) n) =
    λ s. all_from (λ m. literal_cmp (literal a s) m ≡ Less) (literals_from (a + 1) n)
    (λ m h. signed_less (literal a s) m (let r = literals_cases (a + 1) n m h in omega arith)) in
    ((positive_first a, above true), (above false, literals_rise (a + 1) n))

pub signed_rise : IsRising literal_cmp signed_places
unfolding signed_places
signed_rise = literals_rise 0 LIMIT

pub Has-signed : (l : Literal) → l.proposition < LIMIT → Has signed_places l
unfolding signed_places
Has-signed l h = Has-literals 0 LIMIT l.proposition l.positive (omega arith) h

pub signed_below : (l : Literal) → Has signed_places l → l.proposition < LIMIT
unfolding signed_places
signed_below l h = (literals_cases 0 LIMIT l h).1

pub literals_of_rise : (ps ns : List ℕ) → IsRising literal_cmp (literals ps ns)
unfolding literals
literals_of_rise ps ns = IsRising-subset literal_linear signed_places signed_rise (literal_in ps ns)

pub literals_below : (ps ns : List ℕ) → AllByRecursion (λ l. l.proposition < LIMIT) (literals ps ns)
unfolding literals
literals_below ps ns = all_from (λ l. l.proposition < LIMIT) (filter (literal_in ps ns) signed_places) (λ z h. signed_below z (filter_cases (literal_in ps ns) signed_places z h).0)

pub has_literals : (ps ns : List ℕ) (l : Literal) → l.proposition < LIMIT → has literal_cmp l (literals ps ns) ≡ literal_in ps ns l
unfolding literals
has_literals ps ns l h = has_test literal_linear signed_places signed_rise l (literal_in ps ns) (Has-signed l h)

pub positive_again : (ps ns : List ℕ) → IsWords ps → words_with_literals true (literals ps ns) ≡ ps
positive_again ps ns one =
    same_words (words_with_literals true (literals ps ns)) ps (IsWords-words_of (λ i. has literal_cmp (literal i true) (literals ps ns))) one
    (λ i h. bit_in-words_of (λ i. has literal_cmp (literal i true) (literals ps ns)) i h ∙ has_literals ps ns (literal i true) h)

pub negative_again : (ps ns : List ℕ) → IsWords ns → words_with_literals false (literals ps ns) ≡ ns
negative_again ps ns one =
    same_words (words_with_literals false (literals ps ns)) ns (IsWords-words_of (λ i. has literal_cmp (literal i false) (literals ps ns))) one
    (λ i h. bit_in-words_of (λ i. has literal_cmp (literal i false) (literals ps ns)) i h ∙ has_literals ps ns (literal i false) h)
