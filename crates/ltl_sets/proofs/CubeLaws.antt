-- The operations on words of bits as those on sets of literals.
use Rattle.std.proofs.Common.{◌≡◌, ◌∙◌, ap, ap₂, sym, refl, ℕ, zero, suc, ◌+◌, ◌<◌, w64, bit_and, bit_or, Bool, true, false, cond, not, ◌||◌, ◌&&◌, inl, nat_eq, List, [], ◌∷◌, map, Some, None}
use Rattle.std.specs.Prelude.{bit_xor, replicate, if◌then◌else◌}
use Rattle.std.specs.Int.{bit_not}
use Rattle.std.specs.Bool.{Decides, beq}
use Rattle.std.specs.Simd.Lanes.{zip2}
use Rattle.std.specs.Ordering.{nat_cmp}
use Rattle.std.specs.List.{filter, range_with_len}
use Rattle.std.proofs.lemmas.Bool.Decides.{same_from_decides, Decides-like}
use Rattle.ltl_spec.specs.Collections.Sets.{Has, put, union, has, is_subset}
use Rattle.ltl_spec.specs.Transitions.Cubes.{Literal, literal_cmp, opposite, is_contradictory, allows}
use Rattle.ltl_spec.proofs.Collections.SetLaws.{filter_cases, Has-filter}
use Rattle.ltl_spec.proofs.Collections.MemberLaws.{all_Decides, any_cases, any_true}
use Rattle.ltl_spec.proofs.Collections.Orders.{literal_linear}
use Rattle.ltl_spec.proofs.Collections.CaseLaws.{nat_eq_is, nat_eq_same}
use Rattle.ltl_sets.specs.Words.{IsWords, bit_in, HasNone, AreDisjoint, places, members, literals_from, signed_places, literal_in, literals, letter_of, forbidden_of}
use Rattle.ltl_sets.specs.CubeEq.{same_cube, cube_Decides}
use Rattle.ltl_sets.specs.SubsetLaws.{filter_none, union_tests, common_tests, put_test, subset_tests}
use Rattle.ltl_sets.specs.WordLaws.{IsWords-or, IsWords-and, IsWords-xor, IsWords-without, bit_in-or, bit_in-and, bit_in-xor, bit_in-without, bit_in-empty, same_words}
use Rattle.ltl_sets.specs.PlaceLaws.{literal, signed_rise, Has-signed, signed_below, has_members, has_literals}
use Rattle.ltl_sets.proofs.RowSetLaws.{never, false_if}
use Rattle.ltl_sets.specs.declared.row_set.TheConstants.RowSet.{LIMIT, WORDS}

-- ---- tests of literals

pub literals_none : (ps ns : List ℕ) → ((l : Literal) → l.proposition < LIMIT → literal_in ps ns l ≡ false) → literals ps ns ≡ []
unfolding literals
literals_none ps ns f = filter_none (literal_in ps ns) signed_places (λ l h. f l (signed_below l h))

sign_cases : (s a b : Bool) → a ≡ false → b ≡ false → cond s a b ≡ false
sign_cases true a b e f = e
sign_cases false a b e f = f

pub literals_empty : literals (replicate WORDS 0) (replicate WORDS 0) ≡ []
literals_empty = literals_none (replicate WORDS 0) (replicate WORDS 0) (λ l h. sign_cases l.positive _ _ (bit_in-empty l.proposition h) (bit_in-empty l.proposition h))

pub literals_single : (ps ns : List ℕ) (l : Literal) → l.proposition < LIMIT → literal_in ps ns l ≡ true
    → ((m : Literal) → m.proposition < LIMIT → literal_in ps ns m ≡ true → m ≡ l) → literals ps ns ≡ l ∷ []
unfolding literals
literals_single ps ns l h there alone =
    put_test literal_linear signed_places signed_rise l (λ _. false) (literal_in ps ns) (Has-signed l h) there
    (λ z m e. never (sym e)) (λ z m e. inl (alone z (signed_below z m) e))
    ∙ ap (put literal_cmp l) (filter_none (λ _. false) signed_places (λ z m. refl))

-- the literal of a proposition by its sign
pub literal_alone : (us : List ℕ) (p : ℕ) (s : Bool) → p < LIMIT → ((j : ℕ) → j < LIMIT → bit_in us j ≡ nat_eq j p)
    → literals (cond s us (replicate WORDS 0)) (cond s (replicate WORDS 0) us) ≡ literal p s ∷ []
literal_alone us p true h f =
    literals_single us (replicate WORDS 0) (literal p true) h (f p h ∙ nat_eq_same p p refl) (λ m l e. only m.proposition m.positive l e)
  where
    only : (q : ℕ) (s : Bool) → q < LIMIT → cond s (bit_in us q) (bit_in (replicate WORDS 0) q) ≡ true → literal q s ≡ literal p true
    only q true l e = ap (λ n. literal n true) (nat_eq_is q p (sym (f q l) ∙ e))
    only q false l e = never (sym e ∙ bit_in-empty q l)
literal_alone us p false h f =
    literals_single (replicate WORDS 0) us (literal p false) h (f p h ∙ nat_eq_same p p refl) (λ m l e. only m.proposition m.positive l e)
  where
    only : (q : ℕ) (s : Bool) → q < LIMIT → cond s (bit_in (replicate WORDS 0) q) (bit_in us q) ≡ true → literal q s ≡ literal p false
    only q true l e = never (sym e ∙ bit_in-empty q l)
    only q false l e = ap (λ n. literal n false) (nat_eq_is q p (sym (f q l) ∙ e))

-- ---- two cubes at once

module _ (ps ns qs ms : List ℕ) (p1 : IsWords ps) (n1 : IsWords ns) (p2 : IsWords qs) (n2 : IsWords ms) where
  or_signs : (s a b c d x y : Bool) → x ≡ (a || c) → y ≡ (b || d) → cond s x y ≡ (cond s a b || cond s c d)
  or_signs true a b c d x y e f = e
  or_signs false a b c d x y e f = f

  pub literals_union : literals (zip2 bit_or ps qs) (zip2 bit_or ns ms) ≡ union literal_cmp (literals ps ns) (literals qs ms)
  unfolding literals
  literals_union =
      union_tests literal_linear signed_places signed_rise (literal_in ps ns) (literal_in qs ms) (literal_in (zip2 bit_or ps qs) (zip2 bit_or ns ms))
      (λ l h. or_signs l.positive _ _ _ _ _ _ (bit_in-or ps qs p1 p2 l.proposition (signed_below l h)) (bit_in-or ns ms n1 n2 l.proposition (signed_below l h)))

  -- ---- the literals of both

  and_signs : (s a b c d x y : Bool) → x ≡ (a && c) → y ≡ (b && d) → cond s x y ≡ (cond s a b && cond s c d)
  and_signs true a b c d x y e f = e
  and_signs false a b c d x y e f = f

  pub literals_common : literals (zip2 bit_and ps qs) (zip2 bit_and ns ms) ≡ filter (λ l. has literal_cmp l (literals qs ms)) (literals ps ns)
  unfolding literals
  literals_common =
      common_tests literal_linear signed_places signed_rise (literal_in ps ns) (literal_in qs ms) (literal_in (zip2 bit_and ps qs) (zip2 bit_and ns ms))
      (λ l h. and_signs l.positive _ _ _ _ _ _ (bit_in-and ps qs p1 p2 l.proposition (signed_below l h)) (bit_in-and ns ms n1 n2 l.proposition (signed_below l h)))

  both_disjoint : (a b c d x y : Bool) → x ≡ (a && c) → y ≡ (b && d) → (a && b) ≡ false → (x && y) ≡ false
  both_disjoint true b c d x y e f g = ap (λ z. x && z) (f ∙ ap (λ z. z && d) g) ∙ ends x
    where
      ends : (z : Bool) → (z && false) ≡ false
      ends true = refl
      ends false = refl
  both_disjoint false b c d x y e f g = ap (λ z. z && y) e

  pub AreDisjoint-common : AreDisjoint ps ns → AreDisjoint (zip2 bit_and ps qs) (zip2 bit_and ns ms)
  AreDisjoint-common disjoint i h = both_disjoint (bit_in ps i) (bit_in ns i) (bit_in qs i) (bit_in ms i) _ _ (bit_in-and ps qs p1 p2 i h) (bit_in-and ns ms n1 n2 i h) (disjoint i h)

  pub IsWords-lacking : IsWords (zip2 bit_or (zip2 bit_and ps (map (bit_not w64) qs)) (zip2 bit_and ns (map (bit_not w64) ms)))
  IsWords-lacking = IsWords-or _ _ (IsWords-without ps qs p1 p2) (IsWords-without ns ms n1 n2)

  bit_in-lacking : (i : ℕ) → i < LIMIT → bit_in (zip2 bit_or (zip2 bit_and ps (map (bit_not w64) qs)) (zip2 bit_and ns (map (bit_not w64) ms))) i ≡ ((bit_in ps i && not (bit_in qs i)) || (bit_in ns i && not (bit_in ms i)))
  bit_in-lacking i h =
      bit_in-or _ _ (IsWords-without ps qs p1 p2) (IsWords-without ns ms n1 n2) i h
      ∙ ap₂ (λ (a b : Bool). a || b) (bit_in-without ps qs p1 p2 i h) (bit_in-without ns ms n1 n2 i h)

  none_lacks : (s a b c d : Bool) → ((a && not c) || (b && not d)) ≡ false → cond s a b ≡ true → cond s c d ≡ true
  none_lacks true true b true d e f = refl
  none_lacks true true b false d e f = never e
  none_lacks true false b c d e f = never (sym f)
  none_lacks false a false c d e f = never (sym f)
  none_lacks false a true c true e f = refl
  none_lacks false true true true false e f = never e
  none_lacks false true true false false e f = never e
  none_lacks false false true c false e f = never e

  lacks_none : (a b c d : Bool) → (a ≡ true → c ≡ true) → (b ≡ true → d ≡ true) → ((a && not c) || (b && not d)) ≡ false
  lacks_none true true c d f g = ap₂ (λ (x y : Bool). not x || not y) (f refl) (g refl)
  lacks_none true false c d f g = ap (λ x. not x || false) (f refl)
  lacks_none false true c d f g = ap not (g refl)
  lacks_none false false c d f g = refl

  pub implies_Decides : (r : Bool) → Decides r (HasNone (zip2 bit_or (zip2 bit_and ps (map (bit_not w64) qs)) (zip2 bit_and ns (map (bit_not w64) ms))))
      → r ≡ is_subset literal_cmp (literals ps ns) (literals qs ms)
  unfolding literals
  implies_Decides r d =
      same_from_decides r (is_subset literal_cmp (filter (literal_in ps ns) signed_places) (filter (literal_in qs ms) signed_places))
      (Decides-like r
      (λ f l m e. none_lacks l.positive (bit_in ps l.proposition) (bit_in ns l.proposition) (bit_in qs l.proposition) (bit_in ms l.proposition)
      (sym (bit_in-lacking l.proposition (signed_below l m)) ∙ f l.proposition (signed_below l m)) e)
      (λ f i h. bit_in-lacking i h ∙ lacks_none (bit_in ps i) (bit_in ns i) (bit_in qs i) (bit_in ms i) (f (literal i true) (Has-signed (literal i true) h)) (f (literal i false) (Has-signed (literal i false) h)))
      d)
      (subset_tests literal_linear signed_places signed_rise (literal_in ps ns) (literal_in qs ms))

  -- ---- the same literals

  pub IsWords-differing : IsWords (zip2 bit_or (zip2 bit_xor ps qs) (zip2 bit_xor ns ms))
  IsWords-differing = IsWords-or _ _ (IsWords-xor ps qs p1 p2) (IsWords-xor ns ms n1 n2)

  bit_in-differing : (i : ℕ) → i < LIMIT → bit_in (zip2 bit_or (zip2 bit_xor ps qs) (zip2 bit_xor ns ms)) i ≡ (not (beq (bit_in ps i) (bit_in qs i)) || not (beq (bit_in ns i) (bit_in ms i)))
  bit_in-differing i h =
      bit_in-or _ _ (IsWords-xor ps qs p1 p2) (IsWords-xor ns ms n1 n2) i h
      ∙ ap₂ (λ (a b : Bool). a || b) (bit_in-xor ps qs p1 p2 i h) (bit_in-xor ns ms n1 n2 i h)

  both_same : (a b c d : Bool) → (not (beq a c) || not (beq b d)) ≡ false → (a ≡ c) × (b ≡ d)
  both_same true true true true e = (refl, refl)
  both_same true false true false e = (refl, refl)
  both_same false true false true e = (refl, refl)
  both_same false false false false e = (refl, refl)
  both_same true true true false e = never e
  both_same true false true true e = never e
  both_same false true false false e = never e
  both_same false false false true e = never e
  both_same true b false d e = never e
  both_same false b true d e = never e

  same_both : (a b c d : Bool) → a ≡ c → b ≡ d → (not (beq a c) || not (beq b d)) ≡ false
  same_both a b c d e f = ap₂ (λ (x y : Bool). not (beq a x) || not (beq b y)) (sym e) (sym f) ∙ itself a b
    where
      itself : (a b : Bool) → (not (beq a a) || not (beq b b)) ≡ false
      itself true true = refl
      itself true false = refl
      itself false true = refl
      itself false false = refl

  same_at : HasNone (zip2 bit_or (zip2 bit_xor ps qs) (zip2 bit_xor ns ms)) → (i : ℕ) → i < LIMIT → (bit_in ps i ≡ bit_in qs i) × (bit_in ns i ≡ bit_in ms i)
  same_at f i h = both_same (bit_in ps i) (bit_in ns i) (bit_in qs i) (bit_in ms i) (sym (bit_in-differing i h) ∙ f i h)

  pub same_literals : HasNone (zip2 bit_or (zip2 bit_xor ps qs) (zip2 bit_xor ns ms)) → literals ps ns ≡ literals qs ms
  same_literals f = ap₂ literals (same_words ps qs p1 p2 (λ i h. (same_at f i h).0)) (same_words ns ms n1 n2 (λ i h. (same_at f i h).1))

  sign_same : (s : Bool) (i : ℕ) → i < LIMIT → literals ps ns ≡ literals qs ms → literal_in ps ns (literal i s) ≡ literal_in qs ms (literal i s)
  sign_same s i h e = sym (has_literals ps ns (literal i s) h) ∙ ap (has literal_cmp (literal i s)) e ∙ has_literals qs ms (literal i s) h

  pub literals_same : literals ps ns ≡ literals qs ms → HasNone (zip2 bit_or (zip2 bit_xor ps qs) (zip2 bit_xor ns ms))
  literals_same e i h = bit_in-differing i h ∙ same_both (bit_in ps i) (bit_in ns i) (bit_in qs i) (bit_in ms i) (sign_same true i h e) (sign_same false i h e)

-- ---- contradictions

module _ (ps ns : List ℕ) (p1 : IsWords ps) (n1 : IsWords ns) where
  both_signs : (s a b : Bool) → cond s a b ≡ true → cond (not s) a b ≡ true → (a && b) ≡ true
  both_signs true a b e f = ap₂ (λ (x y : Bool). x && y) e f
  both_signs false a b e f = ap₂ (λ (x y : Bool). x && y) f e

  first_so : (a b : Bool) → (a && b) ≡ true → a ≡ true
  first_so true b e = refl
  first_so false b e = never (sym e)

  second_so : (a b : Bool) → (a && b) ≡ true → b ≡ true
  second_so true b e = e
  second_so false b e = never (sym e)

  clash : is_contradictory (literals ps ns) ≡ true → (i : ℕ) × (i < LIMIT) × ((bit_in ps i && bit_in ns i) ≡ true)
  unfolding literals
  clash e =
      let (l, m, t) = any_cases (λ l. has literal_cmp (opposite l) (literals ps ns)) (literals ps ns) e in
      let (n, f) = filter_cases (literal_in ps ns) signed_places l m in
      (l.proposition, signed_below l n, both_signs l.positive (bit_in ps l.proposition) (bit_in ns l.proposition) f (sym (has_literals ps ns (opposite l) (signed_below l n)) ∙ t))

  clashes : (i : ℕ) → i < LIMIT → (bit_in ps i && bit_in ns i) ≡ true → is_contradictory (literals ps ns) ≡ true
  unfolding literals
  clashes i h e =
      any_true (λ l. has literal_cmp (opposite l) (literals ps ns)) (literals ps ns) (literal i true)
      (Has-filter (literal_in ps ns) signed_places (literal i true) (Has-signed (literal i true) h) (first_so _ _ e))
      (has_literals ps ns (literal i false) h ∙ second_so _ _ e)

  pub no_clash : AreDisjoint ps ns → is_contradictory (literals ps ns) ≡ false
  no_clash f = false_if (is_contradictory (literals ps ns)) (λ e. let (i, h, t) = clash e in never (sym t ∙ f i h))

  disjoint_if : HasNone (zip2 bit_and ps ns) → AreDisjoint ps ns
  disjoint_if f i h = sym (bit_in-and ps ns p1 n1 i h) ∙ f i h

  pub AreDisjoint-and : (r : Bool) → Decides r (HasNone (zip2 bit_and ps ns)) → r ≡ true → AreDisjoint ps ns
  AreDisjoint-and r d e = disjoint_if (d.0 e)

  pub joined : (r : Bool) → Decides r (HasNone (zip2 bit_and ps ns)) → r ≡ true → (if is_contradictory (literals ps ns) then None else Some (literals ps ns)) ≡ Some (literals ps ns)
  joined r d e = ap (λ b. cond b None (Some (literals ps ns))) (no_clash (AreDisjoint-and r d e))

  pub not_joined : (r : Bool) → Decides r (HasNone (zip2 bit_and ps ns)) → r ≡ false → (if is_contradictory (literals ps ns) then None else Some (literals ps ns)) ≡ None
  not_joined r d e = ap (λ b. cond b None (Some (literals ps ns))) (contradictory (is_contradictory (literals ps ns)) refl)
    where
      contradictory : (b : Bool) → is_contradictory (literals ps ns) ≡ b → b ≡ true
      contradictory true f = refl
      contradictory false f =
          never (sym (d.1 (λ i h. bit_in-and ps ns p1 n1 i h ∙ false_if (bit_in ps i && bit_in ns i) (λ t. never (sym (clashes i h t) ∙ f)))) ∙ e)

-- ---- letters

letter_step : (b c : Bool) (a : ℕ) (ls : List Literal)
    → letter_of (cond b (literal a true ∷ cond c (literal a false ∷ ls) ls) (cond c (literal a false ∷ ls) ls)) ≡ cond b (a ∷ letter_of ls) (letter_of ls)
letter_step true true a ls = refl
letter_step true false a ls = refl
letter_step false true a ls = refl
letter_step false false a ls = refl

letter_from : (ps ns : List ℕ) (a n : ℕ) → letter_of (filter (literal_in ps ns) (literals_from a n)) ≡ filter (bit_in ps) (range_with_len a n)
letter_from ps ns a zero = refl
letter_from ps ns a (suc n) =
    letter_step (bit_in ps a) (bit_in ns a) a (filter (literal_in ps ns) (literals_from (a + 1) n))
    ∙ ap (λ is. cond (bit_in ps a) (a ∷ is) is) (letter_from ps ns (a + 1) n)

pub letter_literals : (ps ns : List ℕ) → members ps ≡ letter_of (literals ps ns)
unfolding members literals places signed_places
letter_literals ps ns = sym (letter_from ps ns 0 LIMIT)

forbidden_step : (b c : Bool) (a : ℕ) (ls : List Literal)
    → forbidden_of (cond b (literal a true ∷ cond c (literal a false ∷ ls) ls) (cond c (literal a false ∷ ls) ls)) ≡ cond c (a ∷ forbidden_of ls) (forbidden_of ls)
forbidden_step true true a ls = refl
forbidden_step true false a ls = refl
forbidden_step false true a ls = refl
forbidden_step false false a ls = refl

forbidden_from : (ps ns : List ℕ) (a n : ℕ) → forbidden_of (filter (literal_in ps ns) (literals_from a n)) ≡ filter (bit_in ns) (range_with_len a n)
forbidden_from ps ns a zero = refl
forbidden_from ps ns a (suc n) =
    forbidden_step (bit_in ps a) (bit_in ns a) a (filter (literal_in ps ns) (literals_from (a + 1) n))
    ∙ ap (λ is. cond (bit_in ns a) (a ∷ is) is) (forbidden_from ps ns (a + 1) n)

pub forbidden_literals : (ps ns : List ℕ) → members ns ≡ forbidden_of (literals ps ns)
unfolding members literals places signed_places
forbidden_literals ps ns = sym (forbidden_from ps ns 0 LIMIT)

module _ (ps ns ts : List ℕ) (p1 : IsWords ps) (n1 : IsWords ns) (t1 : IsWords ts) where
  pub IsWords-failing : IsWords (zip2 bit_or (zip2 bit_and ps (map (bit_not w64) ts)) (zip2 bit_and ns ts))
  IsWords-failing = IsWords-or _ _ (IsWords-without ps ts p1 t1) (IsWords-and ns ts n1 t1)

  bit_in-failing : (i : ℕ) → i < LIMIT → bit_in (zip2 bit_or (zip2 bit_and ps (map (bit_not w64) ts)) (zip2 bit_and ns ts)) i ≡ ((bit_in ps i && not (bit_in ts i)) || (bit_in ns i && bit_in ts i))
  bit_in-failing i h =
      bit_in-or _ _ (IsWords-without ps ts p1 t1) (IsWords-and ns ts n1 t1) i h
      ∙ ap₂ (λ (a b : Bool). a || b) (bit_in-without ps ts p1 t1 i h) (bit_in-and ns ts n1 t1 i h)

  holds : (s a b t : Bool) → ((a && not t) || (b && t)) ≡ false → cond s a b ≡ true → beq t s ≡ true
  holds true true b true e f = refl
  holds true true b false e f = never e
  holds true false b t e f = never (sym f)
  holds false a false t e f = never (sym f)
  holds false a true false e f = refl
  holds false true true true e f = never e
  holds false false true true e f = never e

  fails : (a b t : Bool) → (a ≡ true → beq t true ≡ true) → (b ≡ true → beq t false ≡ true) → ((a && not t) || (b && t)) ≡ false
  fails true true true f g = never (sym (g refl))
  fails true true false f g = never (sym (f refl))
  fails true false true f g = refl
  fails true false false f g = never (sym (f refl))
  fails false true true f g = never (sym (g refl))
  fails false true false f g = refl
  fails false false t f g = refl

  pub allows_Decides : (r : Bool) → Decides r (HasNone (zip2 bit_or (zip2 bit_and ps (map (bit_not w64) ts)) (zip2 bit_and ns ts)))
      → r ≡ allows (λ i. has nat_cmp i (members ts)) (literals ps ns)
  unfolding literals
  allows_Decides r d =
      same_from_decides r (allows (λ i. has nat_cmp i (members ts)) (literals ps ns))
      (Decides-like r
      (λ f l m. let (n, e) = filter_cases (literal_in ps ns) signed_places l m in
      let h = signed_below l n in
      ap (λ b. beq b l.positive) (has_members ts l.proposition h)
      ∙ holds l.positive (bit_in ps l.proposition) (bit_in ns l.proposition) (bit_in ts l.proposition) (sym (bit_in-failing l.proposition h) ∙ f l.proposition h) e)
      (λ f i h. bit_in-failing i h ∙ fails (bit_in ps i) (bit_in ns i) (bit_in ts i) (member f i h true) (member f i h false))
      d)
      (all_Decides (λ l. beq (has nat_cmp l.proposition (members ts)) l.positive) (literals ps ns))
    where
      member : ((l : Literal) → Has (literals ps ns) l → beq (has nat_cmp l.proposition (members ts)) l.positive ≡ true)
          → (i : ℕ) → i < LIMIT → (s : Bool) → cond s (bit_in ps i) (bit_in ns i) ≡ true → beq (bit_in ts i) s ≡ true
      member f i h s e =
          ap (λ b. beq b s) (sym (has_members ts i h))
          ∙ f (literal i s) (Has-filter (literal_in ps ns) signed_places (literal i s) (Has-signed (literal i s) h) e)

pub same_Decides : (ps ns qs ms : List ℕ) → IsWords ps → IsWords ns → IsWords qs → IsWords ms
    → (r : Bool) → Decides r (HasNone (zip2 bit_or (zip2 bit_xor ps qs) (zip2 bit_xor ns ms))) → r ≡ same_cube (literals ps ns) (literals qs ms)
same_Decides ps ns qs ms p1 n1 p2 n2 r d =
    same_from_decides r (same_cube (literals ps ns) (literals qs ms))
    (Decides-like r (same_literals ps ns qs ms p1 n1 p2 n2) (literals_same ps ns qs ms p1 n1 p2 n2) d)
    (cube_Decides (literals ps ns) (literals qs ms))
