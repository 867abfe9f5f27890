-- Rewriting keeps what holds at every position.
use Rattle.std.proofs.Common.{◌≡◌, ℕ, zero, suc, ◌+◌, ◌<◌, Bool, true, false, cond, ◌&&◌, ◌||◌, inl, inr, refl, sym, subst, arith}
use Rattle.std.proofs.lemmas.Bool.{or_cases, false≢true}
use Rattle.ltl_spec.specs.Semantics.Word.{after_steps}
use Rattle.ltl_spec.specs.NormalForms.Normal.{Normal, Top, Bottom, Leaf, Next, And, Or, Until, Release, same}
use Rattle.ltl_spec.specs.NormalForms.NormalForm.{is_eventually, is_always, simple_and, simple_or, simple_next, simple_until, simple_release, simple_form}
use Rattle.ltl_spec.specs.Semantics.NormalSatisfaction.{Holds}
use Rattle.ltl_spec.proofs.NormalForms.NormalLaws.{same_true}
use Rattle.ltl_spec.proofs.Semantics.LassoLaws.{after_add}
use Rattle.ltl_spec.proofs.Semantics.UntilLaws.{until_map, release_map}
use Rattle.ltl_spec.proofs.Collections.CaseLaws.{left_true, right_true}

-- what holds of either outcome of a test holds of the choice
by_test : (P : Normal → Type 0) (t : Bool) (a b : Normal) → (t ≡ true → P a) → (t ≡ false → P b) → P (cond t a b)
by_test P true a b f g = f refl
by_test P false a b f g = g refl

no_steps : {j : ℕ} → j < 0 → ⊥
no_steps l = omega arith

eventually_is : (b : Normal) → is_eventually b ≡ true → (a : Normal) × (b ≡ Until Top a)
eventually_is (Until Top a) e = (a, refl)
eventually_is _ e = absurd (false≢true e)

always_is : (b : Normal) → is_always b ≡ true → (a : Normal) × (b ≡ Release Bottom a)
always_is (Release Bottom a) e = (a, refl)
always_is _ e = absurd (false≢true e)

module _ (truth : ℕ → ℕ → Bool) (step : ℕ → ℕ) where
  -- the two hold at the same positions
  pub record Alike (a b : Normal) : Type 0 where
    pub to : (i : ℕ) → Holds truth step a i → Holds truth step b i
    pub from : (i : ℕ) → Holds truth step b i → Holds truth step a i

  alike_refl : (a : Normal) → Alike a a
  alike_refl a = record { to = λ i h. h; from = λ i h. h }

  alike_trans : (a b c : Normal) → Alike a b → Alike b c → Alike a c
  alike_trans a b c p q = record { to = λ i h. q.to i (p.to i h); from = λ i h. p.from i (q.from i h) }

  -- an equal operand may be put in
  at_left : (op : Normal → Normal → Normal) (c a x b : Normal) → a ≡ x → Alike c (op x b) → Alike c (op a b)
  at_left op c a x b e = subst (λ y. Alike c (op y b)) (sym e)

  at_right : (op : Normal → Normal → Normal) (c a b x : Normal) → b ≡ x → Alike c (op a x) → Alike c (op a b)
  at_right op c a b x e = subst (λ y. Alike c (op a y)) (sym e)

  alike_and : (a b : Normal) → Alike (simple_and a b) (And a b)
  alike_and a b =
      by_test P (same a Top) b _ (λ e. at_left And b a Top b (same_true a Top e) (record { to = λ i h. (tt, h); from = λ i h. h.1 }))
      (λ _. by_test P (same b Top) a _ (λ e. at_right And a a b Top (same_true b Top e) (record { to = λ i h. (h, tt); from = λ i h. h.0 }))
      (λ _. by_test P (same a Bottom || same b Bottom) Bottom _ (λ e. elim (or_cases _ _ e) [
        | inl f ↦ at_left And Bottom a Bottom b (same_true a Bottom f) (record { to = λ i h. absurd h; from = λ i h. h.0 })
        | inr f ↦ at_right And Bottom a b Bottom (same_true b Bottom f) (record { to = λ i h. absurd h; from = λ i h. h.1 })
      ])
      (λ _. by_test P (same a b) a (And a b) (λ e. at_right And a a b a (sym (same_true a b e)) (record { to = λ i h. (h, h); from = λ i h. h.0 })) (λ _. alike_refl (And a b)))))
    where
      P : Normal → Type 0
      P c = Alike c (And a b)

  alike_or : (a b : Normal) → Alike (simple_or a b) (Or a b)
  alike_or a b =
      by_test P (same a Bottom) b _ (λ e. at_left Or b a Bottom b (same_true a Bottom e) (record { to = λ i h. inr h; from = λ i. elim [ inl x ↦ absurd x | inr h ↦ h ] }))
      (λ _. by_test P (same b Bottom) a _ (λ e. at_right Or a a b Bottom (same_true b Bottom e) (record { to = λ i h. inl h; from = λ i. elim [ inl h ↦ h | inr x ↦ absurd x ] }))
      (λ _. by_test P (same a Top || same b Top) Top _ (λ e. elim (or_cases _ _ e) [
        | inl f ↦ at_left Or Top a Top b (same_true a Top f) (record { to = λ i h. inl tt; from = λ i h. tt })
        | inr f ↦ at_right Or Top a b Top (same_true b Top f) (record { to = λ i h. inr tt; from = λ i h. tt })
      ])
      (λ _. by_test P (same a b) a (Or a b) (λ e. at_right Or a a b a (sym (same_true a b e)) (record { to = λ i h. inl h; from = λ i. elim [ inl h ↦ h | inr h ↦ h ] })) (λ _. alike_refl (Or a b)))))
    where
      P : Normal → Type 0
      P c = Alike c (Or a b)

  alike_next : (a : Normal) → Alike (simple_next a) (Next a)
  alike_next a =
      by_test (λ c. Alike c (Next a)) (same a Top || same a Bottom) a (Next a) (λ e. elim (or_cases _ _ e) [
        | inl f ↦ at Top (same_true a Top f) (record { to = λ i h. tt; from = λ i h. tt })
        | inr f ↦ at Bottom (same_true a Bottom f) (record { to = λ i h. absurd h; from = λ i h. h })
      ]) (λ _. alike_refl (Next a))
    where
      at : (x : Normal) → a ≡ x → Alike x (Next x) → Alike a (Next a)
      at x e = subst (λ y. Alike y (Next y)) (sym e)

  -- `a U b` and `a V b` at once
  until_now : (a b : Normal) (i : ℕ) → Holds truth step b i → Holds truth step (Until a b) i
  until_now a b i h = (0, h, λ j l. absurd (no_steps l))

  alike_until : (a b : Normal) → Alike (simple_until a b) (Until a b)
  alike_until a b =
      by_test P (same b Top || same b Bottom) b _ (λ e. elim (or_cases _ _ e) [
        | inl f ↦ at Top (same_true b Top f) (record { to = λ i h. until_now a Top i tt; from = λ i h. tt })
        | inr f ↦ at Bottom (same_true b Bottom f) (record { to = λ i h. absurd h; from = λ i h. h.1 })
      ])
      (λ _. by_test P (same a Bottom || same a b) b _ (λ e. elim (or_cases _ _ e) [
        | inl f ↦ at_left Until b a Bottom b (same_true a Bottom f) (record { to = until_now Bottom b; from = λ i h. at_once i h.0 h.1 h.2 })
        | inr f ↦ at_left Until b a b b (same_true a b f) (record { to = until_now b b; from = λ i h. first i h.0 h.1 h.2 })
      ])
      (λ _. by_test P (same a Top && is_eventually b) b (Until a b) (λ e. twice (same_true a Top (left_true _ _ e)) (eventually_is b (right_true (same a Top) _ e))) (λ _. alike_refl (Until a b))))
    where
      P : Normal → Type 0
      P c = Alike c (Until a b)

      at : (x : Normal) → b ≡ x → Alike x (Until a x) → Alike b (Until a b)
      at x e = subst (λ y. Alike y (Until a y)) (sym e)

      at_once : (i k : ℕ) → Holds truth step b (after_steps step k i) → ((j : ℕ) → j < k → ⊥) → Holds truth step b i
      at_once i zero h f = h
      at_once i (suc k) h f = absurd (f 0 (omega arith))

      first : (i k : ℕ) → Holds truth step b (after_steps step k i) → ((j : ℕ) → j < k → Holds truth step b (after_steps step j i)) → Holds truth step b i
      first i zero h f = h
      first i (suc k) h f = f 0 (omega arith)

      again : (c : Normal) → Alike (Until Top c) (Until Top (Until Top c))
      again c = record {
        to = until_now Top (Until Top c);
        from = λ i h. (h.1.0 + h.0, subst (Holds truth step c) (sym (after_add step h.1.0 h.0 i)) h.1.1, λ j l. tt);
      }

      twice : a ≡ Top → (c : Normal) × (b ≡ Until Top c) → Alike b (Until a b)
      twice e w = at_left Until b a Top b e (subst (λ y. Alike y (Until Top y)) (sym w.1) (again w.0))

  alike_release : (a b : Normal) → Alike (simple_release a b) (Release a b)
  alike_release a b =
      by_test P (same b Top || same b Bottom) b _ (λ e. elim (or_cases _ _ e) [
        | inl f ↦ at Top (same_true b Top f) (record { to = λ i h k. inl tt; from = λ i h. tt })
        | inr f ↦ at Bottom (same_true b Bottom f) (record { to = λ i h. absurd h; from = λ i h. now a Bottom i h })
      ])
      (λ _. by_test P (same a Top || same a b) b _ (λ e. elim (or_cases _ _ e) [
        | inl f ↦ at_left Release b a Top b (same_true a Top f) (record { to = λ i h. keep_top i h; from = now Top b })
        | inr f ↦ at_left Release b a b b (same_true a b f) (record { to = λ i h. keep i h; from = now b b })
      ])
      (λ _. by_test P (same a Bottom && is_always b) b (Release a b) (λ e. twice (same_true a Bottom (left_true _ _ e)) (always_is b (right_true (same a Bottom) _ e))) (λ _. alike_refl (Release a b))))
    where
      P : Normal → Type 0
      P c = Alike c (Release a b)

      at : (x : Normal) → b ≡ x → Alike x (Release a x) → Alike b (Release a b)
      at x e = subst (λ y. Alike y (Release a y)) (sym e)

      now : (c d : Normal) (i : ℕ) → Holds truth step (Release c d) i → Holds truth step d i
      now c d i r = elim (r 0) [ inl h ↦ h | inr w ↦ absurd (no_steps w.1) ]

      keep_top : (i : ℕ) → Holds truth step b i → Holds truth step (Release Top b) i
      keep_top i h zero = inl h
      keep_top i h (suc k) = inr (0, omega arith, tt)

      keep : (i : ℕ) → Holds truth step b i → Holds truth step (Release b b) i
      keep i h zero = inl h
      keep i h (suc k) = inr (0, omega arith, h)

      always_at : (c : Normal) (i : ℕ) → Holds truth step (Release Bottom c) i → (k : ℕ) → Holds truth step c (after_steps step k i)
      always_at c i r k = elim (r k) [ inl h ↦ h | inr w ↦ absurd w.2 ]

      again : (c : Normal) → Alike (Release Bottom c) (Release Bottom (Release Bottom c))
      again c = record {
        to = λ i r k. inl (λ m. inl (subst (Holds truth step c) (after_add step m k i) (always_at c i r (m + k))));
        from = λ i r. now Bottom (Release Bottom c) i r;
      }

      twice : a ≡ Bottom → (c : Normal) × (b ≡ Release Bottom c) → Alike b (Release a b)
      twice e w = at_left Release b a Bottom b e (subst (λ y. Alike y (Release Bottom y)) (sym w.1) (again w.0))

  pub alike_simple_form : (a : Normal) → Alike (simple_form a) a
  alike_simple_form Top = alike_refl Top
  alike_simple_form Bottom = alike_refl Bottom
  alike_simple_form (Leaf l) = alike_refl (Leaf l)
  alike_simple_form (Next a) = let p = alike_simple_form a in
      alike_trans _ (Next (simple_form a)) _ (alike_next (simple_form a)) (record { to = λ i h. p.to (step i) h; from = λ i h. p.from (step i) h })
  alike_simple_form (And a b) = let p = alike_simple_form a in let q = alike_simple_form b in
      alike_trans _ (And (simple_form a) (simple_form b)) _ (alike_and (simple_form a) (simple_form b))
      (record { to = λ i h. (p.to i h.0, q.to i h.1); from = λ i h. (p.from i h.0, q.from i h.1) })
  alike_simple_form (Or a b) = let p = alike_simple_form a in let q = alike_simple_form b in
      alike_trans _ (Or (simple_form a) (simple_form b)) _ (alike_or (simple_form a) (simple_form b))
      (record { to = λ i. elim [ inl x ↦ inl (p.to i x) | inr y ↦ inr (q.to i y) ]; from = λ i. elim [ inl x ↦ inl (p.from i x) | inr y ↦ inr (q.from i y) ] })
  alike_simple_form (Until a b) = let p = alike_simple_form a in let q = alike_simple_form b in
      alike_trans _ (Until (simple_form a) (simple_form b)) _ (alike_until (simple_form a) (simple_form b))
      (record { to = λ i h. until_map step p.to q.to i h; from = λ i h. until_map step p.from q.from i h })
  alike_simple_form (Release a b) = let p = alike_simple_form a in let q = alike_simple_form b in
      alike_trans _ (Release (simple_form a) (simple_form b)) _ (alike_release (simple_form a) (simple_form b))
      (record { to = λ i h. release_map step p.to q.to i h; from = λ i h. release_map step p.from q.from i h })
