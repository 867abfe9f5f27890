-- Laws of `U` and `V` over any predicates of positions: their negations, their decisions, and what they say of the next position.
use Rattle.std.proofs.Common.{ℕ, zero, suc, ◌<◌, ◌⊎◌, inl, inr, subst, arith}
use Rattle.ltl_spec.specs.Semantics.Word.{after_steps}
use Rattle.ltl_spec.specs.Semantics.Satisfaction.{HoldsUntil, HoldsRelease}
use Rattle.ltl_spec.proofs.Collections.CaseLaws.{last_or_below}

-- a decided fact isn't doubly refuted
pub stable : {P : Type 0} → Dec P → ¬ (¬ P) → P
stable (yes p) f = p
stable (no n) f = absurd (f n)

pub not_decided : {P : Type 0} → Dec P → Dec (¬ P)
not_decided (yes p) = no (λ n. n p)
not_decided (no n) = yes n

pub and_decided : {P Q : Type 0} → Dec P → Dec Q → Dec (P × Q)
and_decided (yes p) (yes q) = yes (p, q)
and_decided (yes p) (no m) = no (λ h. m h.1)
and_decided (no n) q = no (λ h. n h.0)

pub or_decided : {P Q : Type 0} → Dec P → Dec Q → Dec (P ⊎ Q)
or_decided (yes p) q = yes (inl p)
or_decided (no n) (yes q) = yes (inr q)
or_decided (no n) (no m) = no (elim [ inl p ↦ n p | inr q ↦ m q ])

pub same_decided : {P Q : Type 0} → (P → Q) → (Q → P) → Dec P → Dec Q
same_decided f g (yes p) = yes (f p)
same_decided f g (no n) = no (λ q. n (g q))

-- whether some number below k has a decided property
pub some_below : (P : ℕ → Type 0) → ((j : ℕ) → Dec (P j)) → (k : ℕ) → Dec ((j : ℕ) × (j < k) × P j)
some_below P d zero = no (λ h. let l = h.1 in absurd (omega arith))
some_below P d (suc k) = go (some_below P d k) (d k)
  where
    go : Dec ((j : ℕ) × (j < k) × P j) → Dec (P k) → Dec ((j : ℕ) × (j < suc k) × P j)
    go (yes h) e = yes (h.0, (let l = h.1 in omega arith), h.2)
    go (no n) (yes p) = yes (k, omega arith, p)
    go (no n) (no m) = no (λ h. elim (last_or_below h.0 k h.1) [ inl l ↦ n (h.0, l, h.2) | inr e ↦ m (subst P e h.2) ])

module _ (step : ℕ → ℕ) where
  -- more follows from more
  pub until_map : {a b c d : ℕ → Type 0} → ((i : ℕ) → a i → c i) → ((i : ℕ) → b i → d i) → (i : ℕ) → HoldsUntil step a b i → HoldsUntil step c d i
  until_map f g i h = (h.0, g (after_steps step h.0 i) h.1, λ j l. f (after_steps step j i) (h.2 j l))

  pub release_map : {a b c d : ℕ → Type 0} → ((i : ℕ) → a i → c i) → ((i : ℕ) → b i → d i) → (i : ℕ) → HoldsRelease step a b i → HoldsRelease step c d i
  release_map f g i h k = elim (h k) [ inl q ↦ inl (g (after_steps step k i) q) | inr w ↦ inr (w.0, w.1, f (after_steps step w.0 i) w.2) ]

  module _ {a b : ℕ → Type 0} (decide_a : (i : ℕ) → Dec (a i)) (decide_b : (i : ℕ) → Dec (b i)) where
    -- `!(a U b)` is `!a V !b`
    pub release_from_not_until : (i : ℕ) → ¬ (HoldsUntil step a b i) → HoldsRelease step (λ j. ¬ (a j)) (λ j. ¬ (b j)) i
    release_from_not_until i n k = go (decide_b (after_steps step k i)) (some_below (λ j. ¬ (a (after_steps step j i))) (λ j. not_decided (decide_a (after_steps step j i))) k)
      where
        go : Dec (b (after_steps step k i)) → Dec ((j : ℕ) × (j < k) × ¬ (a (after_steps step j i))) → (¬ (b (after_steps step k i))) ⊎ ((j : ℕ) × (j < k) × ¬ (a (after_steps step j i)))
        go (no m) w = inl m
        go (yes q) (yes w) = inr w
        go (yes q) (no m) = absurd (n (k, q, λ j l. stable (decide_a (after_steps step j i)) (λ na. m (j, l, na))))

  -- the other ways need no decision
  pub not_until_from_release : (a b : ℕ → Type 0) (i : ℕ) → HoldsRelease step (λ j. ¬ (a j)) (λ j. ¬ (b j)) i → ¬ (HoldsUntil step a b i)
  not_until_from_release a b i r u = elim (r u.0) [ inl m ↦ m u.1 | inr w ↦ w.2 (u.2 w.0 w.1) ]

  pub not_release_from_until : (a b : ℕ → Type 0) (i : ℕ) → HoldsUntil step (λ j. ¬ (a j)) (λ j. ¬ (b j)) i → ¬ (HoldsRelease step a b i)
  not_release_from_until a b i u r = elim (r u.0) [ inl q ↦ u.1 q | inr w ↦ u.2 w.0 w.1 w.2 ]

  -- `V` is decided where `U` is
  pub release_decided : {a b : ℕ → Type 0} → ((i : ℕ) → Dec (a i)) → ((i : ℕ) → Dec (b i)) → (i : ℕ) → Dec (HoldsUntil step (λ j. ¬ (a j)) (λ j. ¬ (b j)) i) → Dec (HoldsRelease step a b i)
  release_decided {a} {b} da db i (yes u) = no (not_release_from_until a b i u)
  release_decided {a} {b} da db i (no n) = yes (λ k. at k (db (after_steps step k i)) (some_below (λ j. a (after_steps step j i)) (λ j. da (after_steps step j i)) k))
    where
      at : (k : ℕ) → Dec (b (after_steps step k i)) → Dec ((j : ℕ) × (j < k) × a (after_steps step j i)) → b (after_steps step k i) ⊎ ((j : ℕ) × (j < k) × a (after_steps step j i))
      at k (yes q) w = inl q
      at k (no nq) (yes w) = inr w
      at k (no nq) (no nw) = absurd (n (k, nq, λ j l p. nw (j, l, p)))

-- one step on
module _ (step : ℕ → ℕ) (a b : ℕ → Type 0) where
  -- `a U b` holds by b now, or by a now and itself next
  pub until_first : (i : ℕ) → HoldsUntil step a b i → b i ⊎ (a i × HoldsUntil step a b (step i))
  until_first i (k, h, f) = at k h f
    where
      at : (n : ℕ) → b (after_steps step n i) → ((j : ℕ) → j < n → a (after_steps step j i)) → b i ⊎ (a i × HoldsUntil step a b (step i))
      at zero g f' = inl g
      at (suc n) g f' = inr (f' 0 (omega arith), (n, g, λ j l. f' (suc j) (omega arith)))

  -- `a V b` holds by b now, and by a now or itself next
  pub release_now : (i : ℕ) → HoldsRelease step a b i → b i
  release_now i r = elim (r 0) [ inl h ↦ h | inr w ↦ absurd (let l = w.1 in omega arith) ]

  -- by a now or itself next
  pub release_rest : (i : ℕ) → Dec (a i) → HoldsRelease step a b i → a i ⊎ HoldsRelease step a b (step i)
  release_rest i (yes h) r = inl h
  release_rest i (no n) r = inr (λ k. at k (r (suc k)))
    where
      at : (k : ℕ) → b (after_steps step k (step i)) ⊎ ((j : ℕ) × (j < suc k) × a (after_steps step j i)) → b (after_steps step k (step i)) ⊎ ((j : ℕ) × (j < k) × a (after_steps step j (step i)))
      at k (inl h) = inl h
      at k (inr (j, l, h)) = before j l h
        where
          before : (m : ℕ) → m < suc k → a (after_steps step m i) → b (after_steps step k (step i)) ⊎ ((j' : ℕ) × (j' < k) × a (after_steps step j' (step i)))
          before zero l' h' = absurd (n h')
          before (suc m) l' h' = inr (m, omega arith, h')

  -- `a U b` by b now
  pub until_now : (i : ℕ) → b i → HoldsUntil step a b i
  until_now i h = (0, h, λ j l. absurd (omega arith))

  -- or by a now and itself next
  pub until_later : (i : ℕ) → a i → HoldsUntil step a b (step i) → HoldsUntil step a b i
  until_later i h (k, g, f) = (suc k, g, at)
    where
      at : (j : ℕ) → j < suc k → a (after_steps step j i)
      at zero l = h
      at (suc j) l = f j (omega arith)

  -- `a V b` for one number of steps
  abbrev pub ReleaseFor : ℕ → ℕ → Type 0
  ReleaseFor k i = b (after_steps step k i) ⊎ ((j : ℕ) × (j < k) × a (after_steps step j i))

  -- one step more
  pub release_later : (k i : ℕ) → ReleaseFor k (step i) → ReleaseFor (suc k) i
  release_later k i (inl h) = inl h
  release_later k i (inr w) = inr (suc w.0, (let l = w.1 in omega arith), w.2)
