-- The elements of a list by their places, and the parts of a list.
use Rattle.std.proofs.Common.{◌≡◌, ℕ, zero, suc, ◌+◌, ◌-◌, ◌*◌, ◌/◌, ◌%◌, ◌<◌, ◌≤◌, ◌⊎◌, inl, inr, min, Bool, true, false, ◌||◌, List, [], ◌∷◌, ◌++◌, All, Some, None, length, take, drop, refl, sym, ◌∙◌, ap, subst, arith}
use Rattle.std.specs.Prelude.{slice_get}
use Rattle.std.specs.List.{list_any}
use Rattle.std.proofs.lemmas.List.{drop_all, length-append, length-drop, length-take, take_all}
use Rattle.std.proofs.lemmas.Option.{get_or_from_slice_get, slice_get_within}
use Rattle.ltl_spec.proofs.Collections.CaseLaws.{false_is_true}
use Rattle.least.specs.Blocks.{ArePartsOf, IsPartCount, part_at}
use Rattle.least.proofs.HasLaws.{false_if}

-- ---- places

none_some : {X : Type 0} {P : Type 0} (u : X) → None ≡ Some u → P
none_some u e = absurd (no e)
  where
    no : None ≡ Some u → ⊥
    no d = cc

pub all_got : {X : Type 0} (P : X → Type 0) (us : List X) (j : ℕ) (u : X) → All P us → slice_get us j ≡ Some u → P u
all_got P us j u all e = subst P (get_or_from_slice_get us j u u e) (all j u (slice_get_within us j u e))

no_step : (j : ℕ) → j ≡ 0 + j
no_step j = omega arith

one_step : (a j : ℕ) → suc (a + j) ≡ suc a + j
one_step a j = omega arith

pub true_false : {P : Type 0} (b : Bool) → b ≡ true → b ≡ false → P
true_false b e f = false_is_true (sym f ∙ e)

module _ {X : Type 0} where
  pub push_got : (vs : List X) (v : X) (n : ℕ) (w : X) → slice_get (vs ++ v ∷ []) n ≡ Some w → (slice_get vs n ≡ Some w) ⊎ ((n ≡ length vs) × (v ≡ w))
  push_got [] v zero w e = inr (refl, cc)
  push_got [] v (suc n) w e = none_some w e
  push_got (x ∷ vs) v zero w e = inl e
  push_got (x ∷ vs) v (suc n) w e = elim (push_got vs v n w e) [ inl f ↦ inl f | inr (f, g) ↦ inr (omega (arith, f), g) ]

  got_drop : (a : ℕ) (xs : List X) (j : ℕ) → slice_get (drop a xs) j ≡ slice_get xs (a + j)
  got_drop zero xs j = ap (slice_get xs) (no_step j)
  got_drop (suc a) [] j = refl
  got_drop (suc a) (x ∷ xs) j = got_drop a xs j ∙ ap (slice_get (x ∷ xs)) (one_step a j)

  got_take : (n : ℕ) (xs : List X) (j : ℕ) → j < n → slice_get (take n xs) j ≡ slice_get xs j
  got_take zero xs j h = absurd (omega arith)
  got_take (suc n) [] j h = refl
  got_take (suc n) (x ∷ xs) zero h = refl
  got_take (suc n) (x ∷ xs) (suc j) h = got_take n xs j (omega arith)

  pub part_short : (n : ℕ) (xs : List X) → length (part_at n xs) ≤ 256
  part_short n xs = let e = length-take 256 (drop (256 * n) xs) in omega (arith, e)

  pub part_got : (n : ℕ) (xs : List X) (j : ℕ) (u : X) → j < 256 → slice_get xs (256 * n + j) ≡ Some u → slice_get (part_at n xs) j ≡ Some u
  part_got n xs j u h e = got_take 256 (drop (256 * n) xs) j h ∙ got_drop (256 * n) xs j ∙ e

  pub got_part : (n : ℕ) (xs : List X) (j : ℕ) (u : X) → slice_get (part_at n xs) j ≡ Some u → slice_get xs (256 * n + j) ≡ Some u
  got_part n xs j u e =
      let within : j < length (part_at n xs) = slice_get_within (part_at n xs) j u e in
      let short = part_short n xs in
      sym (got_take 256 (drop (256 * n) xs) j (omega (arith, within, short)) ∙ got_drop (256 * n) xs j) ∙ e

  pub part_past : (n : ℕ) (xs : List X) → length xs ≤ 256 * n → part_at n xs ≡ []
  part_past n xs h = ap (take 256) (drop_all (256 * n) xs h)

  -- ---- whether an element passes

  pub at_any : (p : X → Bool) (us : List X) (j : ℕ) (u : X) → slice_get us j ≡ Some u → p u ≡ true → list_any p us ≡ true
  at_any p [] j u e f = none_some u e
  at_any p (x ∷ us) zero u e f = let same : x ≡ u = cc in ap (λ b. b || list_any p us) (ap p same ∙ f)
  at_any p (x ∷ us) (suc j) u e f = right (p x) (at_any p us j u e f)
    where
      right : (a : Bool) → list_any p us ≡ true → (a || list_any p us) ≡ true
      right true g = refl
      right false g = g

  pub none_any : (p : X → Bool) (us : List X) → ((j : ℕ) (u : X) → slice_get us j ≡ Some u → p u ≡ false) → list_any p us ≡ false
  none_any p [] f = refl
  none_any p (x ∷ us) f = ap (λ b. b || list_any p us) (f 0 x refl) ∙ none_any p us (λ j u e. f (suc j) u e)

  -- an element that passes, if there is one
  pub any_at : (p : X → Bool) (us : List X) → list_any p us ≡ true → (j : ℕ) × (u : X) × (slice_get us j ≡ Some u) × (p u ≡ true)
  any_at p [] e = false_is_true e
  any_at p (x ∷ us) e = by (p x) refl e (any_at p us)
    where
      by : (b : Bool) → p x ≡ b → (b || list_any p us) ≡ true → (list_any p us ≡ true → (j : ℕ) × (u : X) × (slice_get us j ≡ Some u) × (p u ≡ true)) → (j : ℕ) × (u : X) × (slice_get (x ∷ us) j ≡ Some u) × (p u ≡ true)
      by true f g later = (0, x, refl, f)
      by false f g later = let (j, u, h, i) = later g in (suc j, u, h, i)

  pub any_of_part : (p : X → Bool) (n : ℕ) (us : List X) → list_any p (part_at n us) ≡ true → list_any p us ≡ true
  any_of_part p n us e = let (j, u, f, g) = any_at p (part_at n us) e in at_any p us (256 * n + j) u (got_part n us j u f) g

  pub any_between : (p : X → Bool) (from n : ℕ) (us : List X) → list_any p (take n (drop from us)) ≡ true → list_any p us ≡ true
  any_between p from n us e =
      let (j, u, f, g) = any_at p (take n (drop from us)) e in
      let within : j < length (take n (drop from us)) = slice_get_within (take n (drop from us)) j u f in
      let short = length-take n (drop from us) in
      at_any p us (from + j) u (sym (got_take n (drop from us) j (omega (arith, within, short)) ∙ got_drop from us j) ∙ f) g

  pub parts_clear : (p : X → Bool) (us : List X) (m : ℕ) → length us ≤ 256 * m → ((n : ℕ) → n < m → list_any p (part_at n us) ≡ false) → list_any p us ≡ false
  parts_clear p us m cover clear = none_any p us (λ j u e. false_if (p u) (λ t.
      let within : j < length us = slice_get_within us j u e in
      true_false (list_any p (part_at (j / 256) us))
      (at_any p (part_at (j / 256) us) (j % 256) u (part_got (j / 256) us (j % 256) u (omega arith) (ap (slice_get us) (whole j) ∙ e)) t)
      (clear (j / 256) (omega (arith, within, cover)))))
    where
      whole : (j : ℕ) → 256 * (j / 256) + j % 256 ≡ j
      whole j = omega arith

-- ---- one value for each part

module _ {U V : Type 0} (R : List U → V → Type 0) where
  -- the values of the first parts
  pub record ArePartsTo (us : List U) (count n : ℕ) (vs : List V) : Type 0 where
    pub inside : n ≤ count
    pub long : length vs ≡ n
    pub each : (k : ℕ) (v : V) → slice_get vs k ≡ Some v → R (part_at k us) v

  pub parts_begin : (us : List U) (count : ℕ) (vs : List V) → vs ≡ [] → ArePartsTo us count 0 vs
  parts_begin us count vs e = record { inside = omega arith; long = ap length e; each = λ k v f. none_some v (sym (ap (λ l. slice_get l k) e) ∙ f) }

  pub parts_step : (us : List U) (count n : ℕ) (vs new : List V) (v : V) → n < count → new ≡ vs ++ v ∷ [] → R (part_at n us) v → ArePartsTo us count n vs → ArePartsTo us count (n + 1) new
  parts_step us count n vs new v h e r p = record {
    inside = omega arith;
    long = ap length e ∙ length-append vs (v ∷ []) ∙ ap (λ m. m + 1) p.long;
    each = λ k w f. elim (push_got vs v k w (sym (ap (λ l. slice_get l k) e) ∙ f)) [
      | inl g ↦ p.each k w g
      | inr (g, s) ↦ subst (R (part_at k us)) s (subst (λ m. R (part_at m us) v) (sym (g ∙ p.long)) r)
    ];
  }

  pub parts_end : (us : List U) (count n : ℕ) (vs : List V) → IsPartCount (length us) count → count ≤ n → ArePartsTo us count n vs → ArePartsOf R us vs
  parts_end us count n vs c h p =
      let all : length vs ≡ count = omega (arith, p.inside, p.long) in
      record {
        cover = subst (λ m. length us ≤ 256 * m) (sym all) c.cover;
        tight = λ k l. c.tight k (subst (λ m. k < m) all l);
        each = p.each;
      }

pub part_counted : (n r : ℕ) → r ≡ n / 256 + min (n % 256) 1 → IsPartCount n r
part_counted n r e = record { cover = omega arith; tight = λ k h. omega arith }

-- a part by its first and its last place
pub part_cut : {X : Type 0} (xs : List X) (n top : ℕ) (from end : ℕ) → length xs ≤ top → from ≡ min (length xs) (min (n * 256) top) → end ≡ min (length xs) (min (from + 256) top) → take (end - from) (drop from xs) ≡ part_at n xs
part_cut xs n top from end h e f = elim (whole_or_cut (256 * n + 256) (length xs)) [
  | inl inside ↦
      let start : from ≡ 256 * n = omega arith in
      let long : end - from ≡ 256 = omega arith in
      ap (λ m. take m (drop from xs)) long ∙ ap (λ m. take 256 (drop m xs)) start
  | inr cut ↦
      take_all (end - from) (drop from xs) (let l = length-drop from xs in omega (arith, l)) ∙ starts cut
      ∙ sym (take_all 256 (drop (256 * n) xs) (let l = length-drop (256 * n) xs in omega (arith, l)))
]
  where
    whole_or_cut : (a b : ℕ) → (a ≤ b) ⊎ (b ≤ a)
    whole_or_cut a b = grind arith

    starts : length xs ≤ 256 * n + 256 → drop from xs ≡ drop (256 * n) xs
    starts cut = elim (whole_or_cut (256 * n) (length xs)) [
      | inl inside ↦ let start : from ≡ 256 * n = omega arith in ap (λ m. drop m xs) start
      | inr past ↦ drop_all from xs (omega arith) ∙ sym (drop_all (256 * n) xs past)
    ]
