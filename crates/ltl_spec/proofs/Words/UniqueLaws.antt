-- A word has one least form.
use Rattle.std.proofs.Common.{◌≡◌, ℕ, zero, suc, ◌+◌, ◌-◌, ◌*◌, ◌<◌, ◌≤◌, inl, inr, List, [], ◌∷◌, ◌++◌, length, refl, sym, ◌∙◌, ap, subst, arith, suc-mul}
use Rattle.std.specs.Prelude.{slice_index_or}
use Rattle.std.proofs.Math.Nat.{add-mul}
use Rattle.ltl_spec.specs.Semantics.Word.{Letter, Lasso, IsSameWord}
use Rattle.ltl_spec.specs.Words.LassoText.{repeated, EndsWith, IsLeast, IsLeastForm}
use Rattle.ltl_spec.proofs.Checking.StreamLaws.{stream, stream_anew, letter_stream}
use Rattle.ltl_spec.proofs.Collections.CaseLaws.{below_equal_above}

-- what is left and the cycle by places

stream_past : (cycle xs : List Letter) (k : ℕ) → stream cycle xs (length xs + k) ≡ stream cycle [] k
stream_past cycle [] k = let e : 0 + k ≡ k = omega arith in ap (stream cycle []) e
stream_past cycle (x ∷ xs) k = let e : suc (length xs) + k ≡ suc (length xs + k) = omega arith in ap (stream cycle (x ∷ xs)) e ∙ stream_past cycle xs k

stream_within : (cycle xs : List Letter) (k : ℕ) → k < length xs → stream cycle xs k ≡ slice_index_or xs k []
stream_within cycle [] k l = absurd (omega arith)
stream_within cycle (x ∷ xs) zero l = refl
stream_within cycle (x ∷ xs) (suc k) l = stream_within cycle xs k (omega arith)

cycle_within : (cycle : List Letter) (k : ℕ) → k < length cycle → stream cycle [] k ≡ slice_index_or cycle k []
cycle_within cycle k l = stream_anew cycle k (omega arith) ∙ stream_within cycle cycle k l

cycle_again : (cycle : List Letter) (k : ℕ) → 0 < length cycle → stream cycle [] (length cycle + k) ≡ stream cycle [] k
cycle_again cycle k l = stream_anew cycle (length cycle + k) l ∙ stream_past cycle cycle k

-- the first letters of a sequence

abbrev window : (ℕ → Letter) → ℕ → List Letter
window f zero = []
window f (suc n) = f 0 ∷ window (λ k. f (suc k)) n

window_length : (f : ℕ → Letter) (n : ℕ) → length (window f n) ≡ n
window_length f zero = refl
window_length f (suc n) = ap suc (window_length (λ k. f (suc k)) n)

window_same : (f g : ℕ → Letter) (n : ℕ) → ((k : ℕ) → k < n → f k ≡ g k) → window f n ≡ window g n
window_same f g zero e = refl
window_same f g (suc n) e =
    let first = e 0 (omega arith) in
    let rest = window_same (λ k. f (suc k)) (λ k. g (suc k)) n (λ k l. e (suc k) (omega arith)) in
    λ i. first i ∷ rest i

window_add : (f : ℕ → Letter) (m n : ℕ) → window f (m + n) ≡ window f m ++ window (λ k. f (k + m)) n
window_add f zero n =
    let e : 0 + n ≡ n = omega arith in
    ap (window f) e ∙ window_same f (λ k. f (k + 0)) n (λ k l. let z : k ≡ k + 0 = omega arith in ap f z)
window_add f (suc m) n =
    let e : suc m + n ≡ suc (m + n) = omega arith in
    ap (window f) e
    ∙ ap (λ l. f 0 ∷ l) (window_add (λ k. f (suc k)) m n)
    ∙ ap (λ l. window f (suc m) ++ l) (window_same (λ k. f (suc (k + m))) (λ k. f (k + suc m)) n (λ k l. let z : suc (k + m) ≡ k + suc m = omega arith in ap f z))

window_of : (xs : List Letter) → xs ≡ window (λ k. slice_index_or xs k []) (length xs)
window_of [] = refl
window_of (x ∷ xs) = ap (λ l. x ∷ l) (window_of xs)

-- what comes back after d places is repeated
repeated_window : (f : ℕ → Letter) (b d : ℕ) → ((k : ℕ) → f (k + d) ≡ f k) → window f (b * d) ≡ repeated b (window f d)
repeated_window f zero d e = let z : 0 * d ≡ 0 = omega arith in ap (window f) z
repeated_window f (suc b) d e =
    let turn : b * d + d ≡ d + b * d = omega arith in
    ap (window f) (suc-mul b d ∙ turn)
    ∙ window_add f d (b * d)
    ∙ ap (λ l. window f d ++ l) (window_same (λ k. f (k + d)) f (b * d) (λ k l. e k) ∙ repeated_window f b d e)

-- periods

module _ (f : ℕ → Letter) where
  -- from place n on, the letter p places later is the same
  abbrev IsPeriod : ℕ → ℕ → Type 0
  IsPeriod n p = (k : ℕ) → n ≤ k → f (k + p) ≡ f k

  period_less : (n p q : ℕ) → p < q → IsPeriod n p → IsPeriod n q → IsPeriod n (q - p)
  period_less n p q l a b k m =
      let e : k + q ≡ k + (q - p) + p = omega arith in
      sym (a (k + (q - p)) (omega arith)) ∙ ap f (sym e) ∙ b k m

  -- two periods have a common part that is a period
  abbrev HasPart : ℕ → ℕ → ℕ → Type 0
  HasPart n p q = (d : ℕ) × (a : ℕ) × (b : ℕ) × (p ≡ a * d) × (q ≡ b * d) × IsPeriod n d

  parts_add : (q x y d : ℕ) → q ≡ x * d + y * d → q ≡ (x + y) * d
  parts_add q x y d e = e ∙ sym (add-mul x y d)

  part : (n fuel p q : ℕ) → p + q ≤ fuel → 0 < p → 0 < q → IsPeriod n p → IsPeriod n q → HasPart n p q
  part n zero p q m l k a b = absurd (omega arith)
  part n (suc fuel) p q m l k a b = elim (below_equal_above p q) [
    | inl less ↦
        let (d, x, y, e, g, h) = part n fuel p (q - p) (omega arith) l (omega arith) a (period_less n p q less a b) in
        let whole : q ≡ x * d + y * d = omega (arith, e, g, less) in
        (d, x, x + y, e, parts_add q x y d whole, h)
    | inr (inl same) ↦ let one : p ≡ 1 * p = omega arith in (p, 1, 1, one, sym same ∙ one, a)
    | inr (inr more) ↦
        let (d, x, y, e, g, h) = part n fuel (p - q) q (omega arith) (omega arith) k (period_less n q p more b a) b in
        let whole : p ≡ x * d + y * d = omega (arith, e, g, more) in
        (d, x + y, y, parts_add p x y d whole, g, h)
  ]

-- a part is no larger
part_most : (p a d : ℕ) → p ≡ a * d → 0 < p → d ≤ p
part_most p zero d e l = let z : 0 * d ≡ 0 = omega arith in absurd (omega (arith, e, z, l))
part_most p (suc a) d e l = let z = suc-mul a d in omega (arith, e, z)

-- a cycle that repeats no shorter list

module _ (cycle : List Letter) (some : 0 < length cycle) where
  abbrev turning : ℕ → Letter
  turning k = stream cycle [] k

  -- far enough the letters are the same
  far : (n : ℕ) → (m : ℕ) × (n ≤ m) × ((k : ℕ) → turning (k + m) ≡ turning k)
  far zero = (0, omega arith, λ k. let z : k + 0 ≡ k = omega arith in ap turning z)
  far (suc n) =
      let (m, l, e) = far n in (
        m + length cycle,
        omega arith,
        λ k. let z : k + (m + length cycle) ≡ length cycle + (k + m) = omega arith in ap turning z ∙ cycle_again cycle (k + m) some ∙ e k,
      )

  -- so a period from some place on is one from the beginning
  always : (n d : ℕ) → IsPeriod turning n d → (k : ℕ) → turning (k + d) ≡ turning k
  always n d h k =
      let (m, l, e) = far n in
      let z : k + d + m ≡ k + m + d = omega arith in
      sym (e (k + d)) ∙ ap turning z ∙ h (k + m) (omega arith) ∙ e k

  -- and the cycle is a repetition
  cycle_is : cycle ≡ window turning (length cycle)
  cycle_is = window_of cycle ∙ window_same (λ k. slice_index_or cycle k []) turning (length cycle) (λ k l. sym (cycle_within cycle k l))

  cycle_repeats : (n b d : ℕ) → length cycle ≡ b * d → IsPeriod turning n d → cycle ≡ repeated b (window turning d)
  cycle_repeats n b d e h = cycle_is ∙ ap (window turning) e ∙ repeated_window turning b d (always n d h)

-- two least forms of one word

-- the letters from the stem on are those of the cycle
behind_stem : (u : Lasso) (f : ℕ → Letter) → ((k : ℕ) → f k ≡ stream u.cycle u.stem k) → (k : ℕ) → f (length u.stem + k) ≡ stream u.cycle [] k
behind_stem u f e k = e (length u.stem + k) ∙ stream_past u.cycle u.stem k

-- the cycle's length is a period from the stem's end on
lasso_period : (u : Lasso) (f : ℕ → Letter) → ((k : ℕ) → f k ≡ stream u.cycle u.stem k) → 0 < length u.cycle → (n : ℕ) → length u.stem ≤ n → IsPeriod f n (length u.cycle)
lasso_period u f e some n l k m =
    let here : k ≡ length u.stem + (k - length u.stem) = omega arith in
    let later : k + length u.cycle ≡ length u.stem + (length u.cycle + (k - length u.stem)) = omega arith in
    ap f later
    ∙ behind_stem u f e (length u.cycle + (k - length u.stem))
    ∙ cycle_again u.cycle (k - length u.stem) some
    ∙ sym (behind_stem u f e (k - length u.stem))
    ∙ ap f (sym here)

-- no period of the word is a smaller part of the length of a least cycle
no_part : (u : Lasso) (f : ℕ → Letter) → ((k : ℕ) → f k ≡ stream u.cycle u.stem k) → 0 < length u.cycle → IsLeast u → (n b d : ℕ) → length u.cycle ≡ b * d → d < length u.cycle → IsPeriod f n d → ⊥
no_part u f e some least n b d q l h = least.shortest b (window (turning u.cycle some) d) (subst (λ m. m < length u.cycle) (sym (window_length (turning u.cycle some) d)) l) (cycle_repeats u.cycle some n b d q periods)
  where
    periods : IsPeriod (λ k. stream u.cycle [] k) n d
    periods k m =
        let z : length u.stem + (k + d) ≡ length u.stem + k + d = omega arith in
        sym (behind_stem u f e (k + d)) ∙ ap f z ∙ h (length u.stem + k) (omega arith) ∙ behind_stem u f e k

-- least cycles of one word are equally long
cycles_alike : (u v : Lasso) (f : ℕ → Letter) → ((k : ℕ) → f k ≡ stream u.cycle u.stem k) → ((k : ℕ) → f k ≡ stream v.cycle v.stem k) → 0 < length u.cycle → 0 < length v.cycle → IsLeast u → IsLeast v → length u.cycle ≡ length v.cycle
cycles_alike u v f e g some more least lesser =
    let n = length u.stem + length v.stem in
    let p = lasso_period u f e some n (omega arith) in
    let q = lasso_period v f g more n (omega arith) in
    let (d, a, b, x, y, h) = part f n (length u.cycle + length v.cycle) (length u.cycle) (length v.cycle) (omega arith) some more p q in
    elim (below_equal_above (length u.cycle) (length v.cycle)) [
      | inl l ↦ let s = part_most (length u.cycle) a d x some in absurd (no_part v f g more lesser n b d y (omega arith) h)
      | inr (inl same) ↦ same
      | inr (inr l) ↦ let s = part_most (length v.cycle) b d y more in absurd (no_part u f e some least n a d x (omega arith) h)
    ]

-- the last letter ends a list
ends_at : (xs : List Letter) (n : ℕ) → length xs ≡ suc n → EndsWith xs (slice_index_or xs n [])
ends_at [] n e = absurd (omega arith)
ends_at (x ∷ []) zero e = ([], refl)
ends_at (x ∷ []) (suc n) e = absurd (omega arith)
ends_at (x ∷ y ∷ ys) zero e = absurd (omega arith)
ends_at (x ∷ y ∷ ys) (suc n) e = let (before, q) = ends_at (y ∷ ys) n (omega arith) in (x ∷ before, ap (λ l. x ∷ l) q)

-- a longer stem ends as its cycle does
longer_stem : (u v : Lasso) (f : ℕ → Letter) → ((k : ℕ) → f k ≡ stream u.cycle u.stem k) → ((k : ℕ) → f k ≡ stream v.cycle v.stem k) → 0 < length u.cycle → length u.cycle ≡ length v.cycle → IsLeast v → length u.stem < length v.stem → ⊥
longer_stem u v f e g some alike least l =
    let n = length v.stem - 1 in
    let m = length v.cycle - 1 in
    let stem_last : length v.stem ≡ suc n = omega arith in
    let cycle_last : length v.cycle ≡ suc m = omega (arith, alike, some) in
    let here : f n ≡ slice_index_or v.stem n [] = g n ∙ stream_within v.cycle v.stem n (omega arith) in
    let round : n + length u.cycle ≡ length v.stem + m = omega (arith, alike, some, l) in
    let there : f (n + length u.cycle) ≡ slice_index_or v.cycle m [] = ap f round ∙ behind_stem v f g m ∙ cycle_within v.cycle m (omega (arith, cycle_last)) in
    let back : f (n + length u.cycle) ≡ f n = lasso_period u f e some n (omega arith) n (omega arith) in
    let equal : slice_index_or v.cycle m [] ≡ slice_index_or v.stem n [] = sym there ∙ back ∙ here in
    least.differs (slice_index_or v.stem n []) (ends_at v.stem n stem_last) (subst (EndsWith v.cycle) equal (ends_at v.cycle m cycle_last))

-- so are the stems
stems_alike : (u v : Lasso) (f : ℕ → Letter) → ((k : ℕ) → f k ≡ stream u.cycle u.stem k) → ((k : ℕ) → f k ≡ stream v.cycle v.stem k) → 0 < length u.cycle → 0 < length v.cycle → length u.cycle ≡ length v.cycle → IsLeast u → IsLeast v → length u.stem ≡ length v.stem
stems_alike u v f e g some more alike least lesser = elim (below_equal_above (length u.stem) (length v.stem)) [
  | inl l ↦ absurd (longer_stem u v f e g some alike lesser l)
  | inr (inl same) ↦ same
  | inr (inr l) ↦ absurd (longer_stem v u f g e more (sym alike) least l)
]

-- stem and cycle by the word's letters
stem_is : (u : Lasso) (f : ℕ → Letter) → ((k : ℕ) → f k ≡ stream u.cycle u.stem k) → u.stem ≡ window f (length u.stem)
stem_is u f e = window_of u.stem ∙ window_same (λ k. slice_index_or u.stem k []) f (length u.stem) (λ k l. sym (e k ∙ stream_within u.cycle u.stem k l))

cycle_of : (u : Lasso) (f : ℕ → Letter) → ((k : ℕ) → f k ≡ stream u.cycle u.stem k) → u.cycle ≡ window (λ k. f (length u.stem + k)) (length u.cycle)
cycle_of u f e =
    window_of u.cycle ∙ window_same (λ k. slice_index_or u.cycle k []) (λ k. f (length u.stem + k)) (length u.cycle) (λ k l. sym (behind_stem u f e k ∙ cycle_within u.cycle k l))

-- a word has one least form
pub least_unique : (v w : Lasso) → 0 < length v.cycle → 0 < length w.cycle → IsSameWord v w → IsLeast v → IsLeast w → v ≡ w
least_unique v w long wide same first second =
    let f = λ (k : ℕ). stream v.cycle v.stem k in
    let e : (k : ℕ) → stream v.cycle v.stem k ≡ stream v.cycle v.stem k = λ k. refl in
    let g : (k : ℕ) → stream v.cycle v.stem k ≡ stream w.cycle w.stem k = λ k. sym (letter_stream v long k) ∙ same k ∙ letter_stream w wide k in
    let cycles = cycles_alike v w f e g long wide first second in
    let stems = stems_alike v w f e g long wide cycles first second in
    let stem : v.stem ≡ w.stem = stem_is v f e ∙ ap (window f) stems ∙ sym (stem_is w f g) in
    let cycle : v.cycle ≡ w.cycle = cycle_of v f e ∙ ap (λ n. window (λ k. f (n + k)) (length v.cycle)) stems ∙ ap (window (λ k. f (length w.stem + k))) cycles ∙ sym (cycle_of w f g) in
    λ i. record { stem = stem i; cycle = cycle i }

-- two least forms of one word are equal
pub least_forms_same : (u v w : Lasso) → IsLeastForm u v → IsLeastForm u w → v ≡ w
least_forms_same u v w a b = least_unique v w a.lasso.cycles b.lasso.cycles (λ k. sym (a.same k) ∙ b.same k) a.least b.least
