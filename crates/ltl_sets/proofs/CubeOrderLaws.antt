-- The order of two sets of literals, and their literals one after another.
use Rattle.std.proofs.Common.{◌≡◌, ◌∙◌, ap, sym, refl, ℕ, ◌<◌, ◌≤◌, bit_or, arith, Bool, true, false, cond, not, ◌||◌, ◌&&◌, ◌⊎◌, inl, inr, List}
use Rattle.std.specs.Prelude.{bit_xor}
use Rattle.std.specs.Bool.{Decides, beq}
use Rattle.std.specs.Simd.Lanes.{zip2}
use Rattle.std.specs.declared.cmp.Ordering.TheVariants.{Less, Equal, Greater}
use Rattle.std.specs.Ordering.{nat_cmp, bool_cmp, ordering_then, ordering_reverse}
use Rattle.std.specs.Cmp.Lexicographic.{slice_cmp}
use Rattle.std.proofs.lemmas.Bool.Decides.{nat_tests}
use Rattle.std.proofs.lemmas.Cmp.{tied_itself}
use Rattle.ltl_spec.specs.Transitions.Cubes.{Literal, literal_cmp, cube_cmp}
use Rattle.ltl_spec.proofs.Collections.Orders.{literal_linear, cube_linear}
use Rattle.ltl_spec.proofs.Collections.CaseLaws.{below_equal_above}
use Rattle.ltl_sets.specs.Words.{IsWords, bit_in, HasNone, Reaches, IsLowest, AreDisjoint, IsCubeWords, signed_places, literal_in, literals}
use Rattle.ltl_sets.specs.SubsetLaws.{cmp_goes_on, cmp_ends}
use Rattle.ltl_sets.specs.WordLaws.{IsWords-xor, bit_in-or, bit_in-xor}
use Rattle.ltl_sets.specs.PlaceLaws.{literal, signed_rise, Has-signed, signed_below, signed_less, positive_first}
use Rattle.ltl_sets.proofs.RowSetLaws.{never, false_if}
use Rattle.ltl_sets.proofs.CubeLaws.{same_literals}
use Rattle.ltl_sets.specs.declared.row_set.TheConstants.RowSet.{LIMIT}

-- ---- which literal is below which

level : (x y : ℕ) → x ≡ y → nat_cmp x y ≡ Equal
level x y e = grind (arith, nat_tests)

greater : (x y : ℕ) → y < x → nat_cmp x y ≡ Greater
greater x y h = grind (arith, nat_tests)

signs_less : (s t : Bool) → bool_cmp t s ≡ Less → (s ≡ true) × (t ≡ false)
signs_less true false e = (refl, refl)
signs_less true true e = cc
signs_less false true e = cc
signs_less false false e = cc

less_cases : (l m : Literal) → literal_cmp l m ≡ Less → (l.proposition < m.proposition) ⊎ ((l.proposition ≡ m.proposition) × ((l.positive ≡ true) × (m.positive ≡ false)))
less_cases l m e =
    elim (below_equal_above l.proposition m.proposition) [
      | inl h ↦ inl h
      | inr (inl h) ↦ inr (h, signs_less l.positive m.positive (sym (ap (λ o. ordering_then o (bool_cmp m.positive l.positive)) (level l.proposition m.proposition h)) ∙ e))
      | inr (inr h) ↦ absurd (other (sym (ap (λ o. ordering_then o (bool_cmp m.positive l.positive)) (greater l.proposition m.proposition h)) ∙ e))
    ]
  where
    other : Greater ≡ Less → ⊥
    other d = cc

-- ---- the first literal that only one of two cubes has

-- the bits of both cubes agree below p, and at p the positive ones if the literal is negative
record AgreeBelow (ps ns qs ms : List ℕ) (p : ℕ) (s : Bool) : Type 0 where
  positive : (j : ℕ) → j < p → bit_in ps j ≡ bit_in qs j
  negative : (j : ℕ) → j < p → bit_in ns j ≡ bit_in ms j
  here : s ≡ false → bit_in ps p ≡ bit_in qs p

agree_sign : (s a b c d : Bool) → a ≡ c → b ≡ d → cond s a b ≡ cond s c d
agree_sign true a b c d e f = e
agree_sign false a b c d e f = f

agree_positive : (s a b c d : Bool) → s ≡ true → a ≡ c → cond s a b ≡ cond s c d
agree_positive true a b c d e f = f
agree_positive false a b c d e f = never (sym e)

agree : (ps ns qs ms : List ℕ) (p : ℕ) (s : Bool) → AgreeBelow ps ns qs ms p s → (l : Literal) → literal_cmp l (literal p s) ≡ Less → literal_in ps ns l ≡ literal_in qs ms l
agree ps ns qs ms p s a l e =
    elim (less_cases l (literal p s) e) [
      | inl h ↦ agree_sign l.positive _ _ _ _ (a.positive l.proposition h) (a.negative l.proposition h)
      | inr (h, (f, g)) ↦ agree_positive l.positive _ _ _ _ f (ap (bit_in ps) h ∙ a.here g ∙ ap (bit_in qs) (sym h))
    ]

at_least : (l m : Literal) → literal_cmp l m ≡ Less → l.proposition ≤ m.proposition
at_least l m e = elim (less_cases l m e) [ inl h ↦ omega arith | inr (h, f) ↦ omega arith ]

either_sign : (a b : Bool) → (a || b) ≡ true → (s : Bool) × (cond s a b ≡ true)
either_sign true b e = (true, refl)
either_sign false b e = (false, e)

some_sign : (s a b : Bool) → cond s a b ≡ true → (a || b) ≡ true
some_sign true true b e = refl
some_sign true false b e = never (sym e)
some_sign false true b e = refl
some_sign false false b e = e

other_sign : (s t : Bool) (a b : Bool) → cond t a b ≡ true → cond s a b ≡ false → t ≡ not s
other_sign true true a b e f = never (sym e ∙ f)
other_sign true false a b e f = refl
other_sign false true a b e f = refl
other_sign false false a b e f = never (sym e ∙ f)

same_or_above : (p j : ℕ) → p ≤ j → (j ≡ p) ⊎ (p < j)
same_or_above p j h = grind arith

module _ (ps ns qs ms : List ℕ) (disjoint : AreDisjoint ps ns) (q1 : IsWords qs) (m1 : IsWords ms) (p : ℕ) (h : p < LIMIT) (s : Bool)
    (mine : literal_in ps ns (literal p s) ≡ true) (lacks : literal_in qs ms (literal p s) ≡ false) (below : AgreeBelow ps ns qs ms p s) where
  -- at p the other cube has at most the negative literal, where the first one has the positive one
  above_here : (t : Bool) → t ≡ not s → literal_in qs ms (literal p t) ≡ true → literal_cmp (literal p s) (literal p t) ≡ Less
  above_here t e f = by s t e mine f below.here
    where
      both : (a b : Bool) → (a && b) ≡ false → a ≡ true → b ≡ true → ⊥
      both true true d g k = never d
      both true false d g k = never (sym k)
      both false b d g k = never (sym g)

      by : (u v : Bool) → v ≡ not u → cond u (bit_in ps p) (bit_in ns p) ≡ true → cond v (bit_in qs p) (bit_in ms p) ≡ true → (u ≡ false → bit_in ps p ≡ bit_in qs p)
          → literal_cmp (literal p u) (literal p v) ≡ Less
      by true true d a b k = never d
      by true false d a b k = positive_first p
      by false true d a b k = absurd (both (bit_in ps p) (bit_in ns p) (disjoint p h) (k refl ∙ b) a)
      by false false d a b k = never (sym d)

  cmp_first : (g : Bool) → Decides g (Reaches (zip2 bit_or qs ms) p) → slice_cmp literal_cmp (literals ps ns) (literals qs ms) ≡ cond g Less Greater
  unfolding literals
  cmp_first true d =
      let (j, l, k, e) = d.0 refl in
      let (t, f) = either_sign (bit_in qs j) (bit_in ms j) (sym (bit_in-or qs ms q1 m1 j k) ∙ e) in
      cmp_goes_on literal_linear (literal p s) (literal_in ps ns) (literal_in qs ms) mine lacks signed_places signed_rise (Has-signed (literal p s) h)
      (λ z m b. agree ps ns qs ms p s below z b) (literal j t) (Has-signed (literal j t) k)
      (elim (same_or_above p j l) [
        | inl i ↦
            let there : literal_in qs ms (literal p t) ≡ true = ap (λ n. literal_in qs ms (literal n t)) (sym i) ∙ f in
            ap (λ n. literal_cmp (literal p s) (literal n t)) i ∙ above_here t (other_sign s t (bit_in qs p) (bit_in ms p) there lacks) there
        | inr i ↦ signed_less (literal p s) (literal j t) i
      ]) f
  cmp_first false d =
      cmp_ends literal_linear (literal p s) (literal_in ps ns) (literal_in qs ms) mine lacks signed_places signed_rise (Has-signed (literal p s) h)
      (λ z m b. agree ps ns qs ms p s below z b)
      (λ y m b. false_if (literal_in qs ms y) (λ e.
      let k = signed_below y m in
      never (sym (d.1 (
        y.proposition,
        at_least (literal p s) y b,
        k,
        bit_in-or qs ms q1 m1 y.proposition k ∙ some_sign y.positive (bit_in qs y.proposition) (bit_in ms y.proposition) e,
      )))))

turned : (a b : List Literal) (g : Bool) → cube_cmp b a ≡ cond g Less Greater → cube_cmp a b ≡ cond (beq false g) Less Greater
turned a b true e = cube_linear.total.antisymm a b ∙ ap ordering_reverse e
turned a b false e = cube_linear.total.antisymm a b ∙ ap ordering_reverse e

-- ---- what the code finds out of two cubes

module _ (ps ns qs ms : List ℕ) (one : IsCubeWords ps ns) (two : IsCubeWords qs ms) where
  pub cmp_same : HasNone (zip2 bit_or (zip2 bit_xor ps qs) (zip2 bit_xor ns ms)) → cube_cmp (literals ps ns) (literals qs ms) ≡ Equal
  cmp_same f =
      ap (λ ls. cube_cmp ls (literals qs ms)) (same_literals ps ns qs ms one.positive_words one.negative_words two.positive_words two.negative_words f)
      ∙ tied_itself cube_linear.total (literals qs ms)

  positive_at : (i : ℕ) → i < LIMIT → bit_in (zip2 bit_xor ps qs) i ≡ not (beq (bit_in ps i) (bit_in qs i))
  positive_at = bit_in-xor ps qs one.positive_words two.positive_words

  negative_at : (i : ℕ) → i < LIMIT → bit_in (zip2 bit_xor ns ms) i ≡ not (beq (bit_in ns i) (bit_in ms i))
  negative_at = bit_in-xor ns ms one.negative_words two.negative_words

  either_at : (i : ℕ) → i < LIMIT → bit_in (zip2 bit_or (zip2 bit_xor ps qs) (zip2 bit_xor ns ms)) i ≡ (bit_in (zip2 bit_xor ps qs) i || bit_in (zip2 bit_xor ns ms) i)
  either_at = bit_in-or _ _ (IsWords-xor ps qs one.positive_words two.positive_words) (IsWords-xor ns ms one.negative_words two.negative_words)

  left_false : (a b : Bool) → (a || b) ≡ false → a ≡ false
  left_false true b e = never e
  left_false false b e = refl

  right_false : (a b : Bool) → (a || b) ≡ false → b ≡ false
  right_false true b e = never e
  right_false false b e = e

  same_if : (a b : Bool) → not (beq a b) ≡ false → a ≡ b
  same_if true true e = refl
  same_if true false e = never e
  same_if false true e = never e
  same_if false false e = refl

  differ_if : (a b : Bool) → not (beq a b) ≡ true → b ≡ not a
  differ_if true true e = never (sym e)
  differ_if true false e = refl
  differ_if false true e = refl
  differ_if false false e = never (sym e)

  module _ (p : ℕ) (low : IsLowest (zip2 bit_or (zip2 bit_xor ps qs) (zip2 bit_xor ns ms)) p) where
    lower : (j : ℕ) → j < p → j < LIMIT
    lower j h = omega (arith, low.below)

    agreeing : (s : Bool) → bit_in (zip2 bit_xor ps qs) p ≡ s → AgreeBelow ps ns qs ms p s
    agreeing s e = record {
      positive = λ j h. same_if (bit_in ps j) (bit_in qs j) (sym (positive_at j (lower j h)) ∙ left_false _ _ (sym (either_at j (lower j h)) ∙ low.zeros j h));
      negative = λ j h. same_if (bit_in ns j) (bit_in ms j) (sym (negative_at j (lower j h)) ∙ right_false _ _ (sym (either_at j (lower j h)) ∙ low.zeros j h));
      here = λ f. same_if (bit_in ps p) (bit_in qs p) (sym (positive_at p low.below) ∙ e ∙ f);
    }

    sign_differs : (s : Bool) → bit_in (zip2 bit_xor ps qs) p ≡ s → literal_in qs ms (literal p s) ≡ not (literal_in ps ns (literal p s))
    sign_differs true e = differ_if (bit_in ps p) (bit_in qs p) (sym (positive_at p low.below) ∙ e)
    sign_differs false e =
        differ_if (bit_in ns p) (bit_in ms p) (sym (negative_at p low.below) ∙ ap (λ b. b || bit_in (zip2 bit_xor ns ms) p) (sym e) ∙ sym (either_at p low.below) ∙ low.one)

    turn_below : (s : Bool) → AgreeBelow ps ns qs ms p s → AgreeBelow qs ms ps ns p s
    turn_below s a = record { positive = λ j h. sym (a.positive j h); negative = λ j h. sym (a.negative j h); here = λ f. sym (a.here f) }

    pub cmp_differing : (s b g : Bool) → bit_in (zip2 bit_xor ps qs) p ≡ s → b ≡ literal_in ps ns (literal p s)
        → Decides g (Reaches (cond b (zip2 bit_or qs ms) (zip2 bit_or ps ns)) p) → cube_cmp (literals ps ns) (literals qs ms) ≡ cond (beq b g) Less Greater
    cmp_differing s true g e mine d =
        cmp_first ps ns qs ms one.disjoint two.positive_words two.negative_words p low.below s (sym mine) (sign_differs s e ∙ ap not (sym mine)) (agreeing s e) g d
        ∙ whole g
      where
        whole : (g : Bool) → cond g Less Greater ≡ cond (beq true g) Less Greater
        whole true = refl
        whole false = refl
    cmp_differing s false g e mine d =
        turned (literals ps ns) (literals qs ms) g
        (cmp_first qs ms ps ns two.disjoint one.positive_words one.negative_words p low.below s (sign_differs s e ∙ ap not (sym mine)) (sym mine) (turn_below s (agreeing s e)) g d)

-- the test of the words of one sign is the test of the literal
pub own_sign : (ps ns us : List ℕ) (p : ℕ) (s : Bool) → us ≡ cond s ps ns → bit_in us p ≡ literal_in ps ns (literal p s)
own_sign ps ns us p true e = ap (λ ws. bit_in ws p) e
own_sign ps ns us p false e = ap (λ ws. bit_in ws p) e
