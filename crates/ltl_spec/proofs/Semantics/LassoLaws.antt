-- On a lasso only finitely many positions differ, so satisfaction is decided.
use Rattle.std.proofs.Common.{◌≡◌, ℕ, zero, suc, ◌+◌, ◌-◌, ◌<◌, ◌≤◌, cond, inl, inr, ◌++◌, length, sym, ◌∙◌, ap, subst, arith, length-append, lt-ltb}
use Rattle.std.proofs.lemmas.Bool.{cases_lt, le-ltb}
use Rattle.ltl_spec.specs.Semantics.Word.{Lasso, next, after_steps}
use Rattle.ltl_spec.specs.Semantics.Satisfaction.{HoldsUntil}
use Rattle.ltl_spec.proofs.Semantics.UntilLaws.{some_below, and_decided, not_decided, stable, same_decided}

-- k steps, and then m more
pub after_add : (step : ℕ → ℕ) (m k i : ℕ) → after_steps step (m + k) i ≡ after_steps step m (after_steps step k i)
after_add step m zero i = let e : m + 0 ≡ m = omega arith in ap (λ n. after_steps step n i) e
after_add step m (suc k) i = let e : m + suc k ≡ suc (m + k) = omega arith in ap (λ n. after_steps step n i) e ∙ after_add step m k (step i)

-- some position comes again on the way from i
abbrev pub Returns : (ℕ → ℕ) → ℕ → Type 0
Returns step i = (p : ℕ) × (q : ℕ) × (p < q) × (after_steps step p i ≡ after_steps step q i)

module _ (step : ℕ → ℕ) (a b : ℕ → Type 0) (i : ℕ) where
  -- b holds after k steps, and a before
  abbrev HoldsAfter : ℕ → Type 0
  HoldsAfter k = b (after_steps step k i) × ((j : ℕ) → j < k → a (after_steps step j i))

  -- where position p comes again at q, a later number of steps can be made smaller
  earlier : (p q k : ℕ) → p < q → q ≤ k → after_steps step p i ≡ after_steps step q i → HoldsAfter k → HoldsAfter ((k - q) + p)
  earlier p q k l m e h =
      let split : (k - q) + q ≡ k = omega arith in
      let same : after_steps step k i ≡ after_steps step ((k - q) + p) i =
      ap (λ n. after_steps step n i) (sym split) ∙ after_add step (k - q) q i ∙ ap (after_steps step (k - q)) (sym e) ∙ sym (after_add step (k - q) p i) in
      (subst b same h.0, λ j n. h.1 j (omega arith))

  soon : (r : Returns step i) (fuel k : ℕ) → k < fuel → HoldsAfter k → (m : ℕ) × (m < r.1) × HoldsAfter m
  soon r zero k l h = absurd (omega arith)
  soon r (suc fuel) k l h =
      elim (cases_lt k r.1) [
        | inl s ↦ (k, s, h)
        | inr m ↦ soon r fuel ((k - r.1) + r.0) (let s = r.2 in omega arith) (earlier r.0 r.1 k r.2 m r.3 h)
      ]

  all_below : ((j : ℕ) → Dec (a j)) → (k : ℕ) → Dec ((j : ℕ) → j < k → a (after_steps step j i))
  all_below d k = same_decided (λ n j l. stable (d (after_steps step j i)) (λ m. n (j, l, m))) (λ f w. w.2 (f w.0 w.1)) (not_decided (some_below (λ j. ¬ (a (after_steps step j i))) (λ j. not_decided (d (after_steps step j i))) k))

  pub until_decided : Returns step i → ((j : ℕ) → Dec (a j)) → ((j : ℕ) → Dec (b j)) → Dec (HoldsUntil step a b i)
  until_decided r da db =
      same_decided (λ w. (w.0, w.2.0, w.2.1)) (λ h. soon r (suc h.0) h.0 (let k = h.0 in omega arith) (h.1, h.2))
      (some_below HoldsAfter (λ k. and_decided (db (after_steps step k i)) (all_below da k)) r.1)

module _ (w : Lasso) (cycles : 0 < length w.cycle) where
  abbrev size : ℕ
  size = length (w.stem ++ w.cycle)

  next_inside : (i : ℕ) → i + 1 < size → next w i ≡ i + 1
  next_inside i l = ap (λ t. cond t (i + 1) (length w.stem)) (lt-ltb (i + 1) size l)

  next_last : (i : ℕ) → size ≤ i + 1 → next w i ≡ length w.stem
  next_last i l = ap (λ t. cond t (i + 1) (length w.stem)) (le-ltb (i + 1) size l)

  -- from m + 1 places before the end, m + 1 steps lead to the cycle's beginning
  reach : (m i : ℕ) → i + m + 1 ≡ size → after_steps (next w) (suc m) i ≡ length w.stem
  reach zero i e = next_last i (omega arith)
  reach (suc m) i e =
      let l : i + 1 < size = omega arith in
      ap (after_steps (next w) (suc m)) (next_inside i l) ∙ reach m (i + 1) (omega arith)

  arrive : (i : ℕ) → (d : ℕ) × (after_steps (next w) d i ≡ length w.stem)
  arrive i =
      elim (cases_lt i size) [
        | inl l ↦ (suc (size - i - 1), reach (size - i - 1) i (omega arith))
        | inr l ↦ (1, next_last i (omega arith))
      ]

  round : after_steps (next w) (length w.cycle) (length w.stem) ≡ length w.stem
  round =
      let long : size ≡ length w.stem + length w.cycle = length-append w.stem w.cycle in
      let e : suc (length w.cycle - 1) ≡ length w.cycle = omega arith in
      ap (λ n. after_steps (next w) n (length w.stem)) (sym e) ∙ reach (length w.cycle - 1) (length w.stem) (omega arith)

  pub returns : (i : ℕ) → Returns (next w) i
  returns i =
      let (d, e) = arrive i in
      (d, length w.cycle + d, omega arith, e ∙ sym round ∙ ap (after_steps (next w) (length w.cycle)) (sym e) ∙ sym (after_add (next w) (length w.cycle) d i))

  pub decide_until : (a b : ℕ → Type 0) → ((i : ℕ) → Dec (a i)) → ((i : ℕ) → Dec (b i)) → (i : ℕ) → Dec (HoldsUntil (next w) a b i)
  decide_until a b da db i = until_decided (next w) a b i (returns i) da db
