-- `U` on a word, position by position from the end.
use Rattle.std.proofs.Common.{◌≡◌, ℕ, zero, suc, ◌+◌, ◌-◌, ◌<◌, ◌≤◌, Bool, true, false, cond, inl, inr, ◌⊎◌, refl, sym, ◌∙◌, ap, subst, arith, lt-ltb}
use Rattle.std.specs.Prelude.{IsTrue, ◌||◌, ◌&&◌}
use Rattle.std.specs.Bool.{Decides}
use Rattle.std.proofs.lemmas.Bool.{cases_lt, le-ltb}
use Rattle.ltl_spec.specs.Semantics.Word.{after_steps}
use Rattle.ltl_spec.specs.Semantics.Satisfaction.{HoldsUntil}
use Rattle.ltl_spec.proofs.Collections.CaseLaws.{left_true, right_true, false_is_true}
use Rattle.ltl_spec.proofs.Semantics.LassoLaws.{after_add}
use Rattle.ltl_spec.proofs.Semantics.UntilLaws.{until_first, until_now, until_later}
use Rattle.ltl_word.specs.Rows.{step_of, back}

module _ (left right : ℕ → Bool) where
  abbrev go : ℕ → ℕ → Bool → Bool
  go = back left right

  either : (s t : Bool) → IsTrue (s || t) → IsTrue s ⊎ IsTrue t
  either true t h = inl refl
  either false t h = inr h

  or_left : (s t : Bool) → IsTrue s → IsTrue (s || t)
  or_left true t h = refl
  or_left false t h = cc

  or_right : (s t : Bool) → IsTrue t → IsTrue (s || t)
  or_right true t h = refl
  or_right false t h = h

  and_both : (s t : Bool) → IsTrue s → IsTrue t → IsTrue (s && t)
  and_both true t g h = h
  and_both false t g h = cc

  module _ (stem count : ℕ) (cycle : stem < count) where
    abbrev step : ℕ → ℕ
    step = step_of stem count

    abbrev Until : ℕ → Type 0
    Until i = HoldsUntil step (λ j. IsTrue (left j)) (λ j. IsTrue (right j)) i

    pub step_inside : (i : ℕ) → i + 1 < count → step i ≡ i + 1
    step_inside i l = ap (λ t. cond t (i + 1) stem) (lt-ltb (i + 1) count l)

    pub step_last : (i : ℕ) → count ≤ i + 1 → step i ≡ stem
    step_last i l = ap (λ t. cond t (i + 1) stem) (le-ltb (i + 1) count l)

    -- steps stay within the positions
    pub step_within : (i : ℕ) → step i < count
    step_within i = elim (cases_lt (i + 1) count) [
      | inl l ↦ subst (λ j. j < count) (sym (step_inside i l)) l
      | inr l ↦ subst (λ j. j < count) (sym (step_last i l)) cycle
    ]

    pub after_within : (k i : ℕ) → i < count → after_steps step k i < count
    after_within zero i l = l
    after_within (suc k) i l = after_within k (step i) (step_within i)

    -- without a turn

    -- as far as the end, steps count up
    after_inside : (k i : ℕ) → i + k < count → after_steps step k i ≡ i + k
    after_inside zero i l = omega arith
    after_inside (suc k) i l =
        let e : i + 1 + k ≡ i + suc k = omega arith in
        ap (after_steps step k) (step_inside i (omega arith)) ∙ after_inside k (i + 1) (omega arith) ∙ e

    -- what is found before the end holds
    found : (k i : ℕ) → i + k ≡ count → IsTrue (go k i false) → Until i
    found zero i e h = false_is_true h
    found (suc k) i e h = elim (either (right i) (left i && go k (i + 1) false) h) [
      | inl r ↦ until_now step (λ j. IsTrue (left j)) (λ j. IsTrue (right j)) i r
      | inr r ↦ until_later step (λ j. IsTrue (left j)) (λ j. IsTrue (right j)) i (left_true _ _ r)
          (on k (right_true (left i) _ r) (omega arith) (λ f g. found k (i + 1) f g))
    ]
      where
        on : (m : ℕ) → IsTrue (go m (i + 1) false) → i + 1 + m ≡ count → (i + 1 + m ≡ count → IsTrue (go m (i + 1) false) → Until (i + 1)) → Until (step i)
        on zero g f rest = false_is_true g
        on (suc m) g f rest = subst Until (sym (step_inside i (omega arith))) (rest f g)

    -- what comes before the end is found
    finds : (k i m : ℕ) → i + k ≡ count → m < k → IsTrue (right (i + m)) → ((j : ℕ) → j < m → IsTrue (left (i + j))) → IsTrue (go k i false)
    finds zero i m e l r f = absurd (omega arith)
    finds (suc k) i zero e l r f = let z : i + 0 ≡ i = omega arith in or_left (right i) _ (subst (λ n. IsTrue (right n)) z r)
    finds (suc k) i (suc m) e l r f =
        let z : i + 0 ≡ i = omega arith in
        let s : i + suc m ≡ i + 1 + m = omega arith in
        or_right (right i) _ (and_both (left i) _ (subst (λ n. IsTrue (left n)) z (f 0 (omega arith)))
        (finds k (i + 1) m (omega arith) (omega arith) (subst (λ n. IsTrue (right n)) s r)
        (λ j n. let t : i + suc j ≡ i + 1 + j = omega arith in subst (λ x. IsTrue (left x)) t (f (suc j) (omega arith)))))

    -- the turn

    around : after_steps step (count - stem) stem ≡ stem
    around =
        let split : count - stem ≡ suc (count - stem - 1) = omega arith in
        let before : after_steps step (count - stem - 1) stem ≡ stem + (count - stem - 1) = after_inside (count - stem - 1) stem (omega arith) in
        let one : 1 + (count - stem - 1) ≡ count - stem = omega arith in
        ap (λ k. after_steps step k stem) (sym one) ∙ after_add step 1 (count - stem - 1) stem ∙ ap step before ∙ step_last (stem + (count - stem - 1)) (omega arith)

    -- a later number of steps can be made smaller
    soon : (fuel k : ℕ) → k < fuel → IsTrue (right (after_steps step k stem)) → ((j : ℕ) → j < k → IsTrue (left (after_steps step j stem)))
        → (m : ℕ) × (m < count - stem) × IsTrue (right (after_steps step m stem)) × ((j : ℕ) → j < m → IsTrue (left (after_steps step j stem)))
    soon zero k l r f = absurd (omega arith)
    soon (suc fuel) k l r f = elim (cases_lt k (count - stem)) [
      | inl s ↦ (k, s, r, f)
      | inr s ↦
          let split : (k - (count - stem)) + (count - stem) ≡ k = omega arith in
          let same : after_steps step k stem ≡ after_steps step (k - (count - stem)) stem =
          ap (λ n. after_steps step n stem) (sym split) ∙ after_add step (k - (count - stem)) (count - stem) stem ∙ ap (after_steps step (k - (count - stem))) around in
          soon fuel (k - (count - stem)) (omega arith) (subst (λ n. IsTrue (right n)) same r) (λ j n. f j (omega arith))
    ]

    -- once round the cycle tells what holds at its beginning
    pub cycle_decides : Decides (go (count - stem) stem false) (Until stem)
    cycle_decides = (
      found (count - stem) stem (omega arith),
      λ u. let s = soon (suc u.0) u.0 (let k = u.0 in omega arith) u.1 u.2 in
          let within : stem + s.0 < count = let l = s.1 in omega arith in
          finds (count - stem) stem s.0 (omega arith) s.1 (subst (λ n. IsTrue (right n)) (after_inside s.0 stem within) s.2)
          (λ j l. let m : stem + j < count = omega arith in subst (λ n. IsTrue (left n)) (after_inside j stem m) (s.3 j l)),
    )

    -- and then what holds at each position
    pub back_decides : (later : Bool) → Decides later (Until stem) → (k i : ℕ) → i + suc k ≡ count → Decides (go (suc k) i later) (Until i)
    back_decides later d zero i e =
        let last : step i ≡ stem = step_last i (omega arith) in (
          λ h. elim (either (right i) (left i && later) h) [
            | inl r ↦ until_now step (λ j. IsTrue (left j)) (λ j. IsTrue (right j)) i r
            | inr r ↦ until_later step (λ j. IsTrue (left j)) (λ j. IsTrue (right j)) i (left_true _ _ r) (subst Until (sym last) (d.0 (right_true (left i) _ r)))
          ],
          λ u. elim (until_first step (λ j. IsTrue (left j)) (λ j. IsTrue (right j)) i u) [
            | inl r ↦ or_left (right i) _ r
            | inr r ↦ or_right (right i) _ (and_both (left i) later r.0 (d.1 (subst Until last r.1)))
          ],
        )
    back_decides later d (suc k) i e =
        let next : step i ≡ i + 1 = step_inside i (omega arith) in
        let rest : Decides (go (suc k) (i + 1) later) (Until (i + 1)) = back_decides later d k (i + 1) (omega arith) in (
          λ h. elim (either (right i) (left i && go (suc k) (i + 1) later) h) [
            | inl r ↦ until_now step (λ j. IsTrue (left j)) (λ j. IsTrue (right j)) i r
            | inr r ↦ until_later step (λ j. IsTrue (left j)) (λ j. IsTrue (right j)) i (left_true _ _ r) (subst Until (sym next) (rest.0 (right_true (left i) _ r)))
          ],
          λ u. elim (until_first step (λ j. IsTrue (left j)) (λ j. IsTrue (right j)) i u) [
            | inl r ↦ or_left (right i) _ r
            | inr r ↦ or_right (right i) _ (and_both (left i) _ r.0 (rest.1 (subst Until next r.1)))
          ],
        )
