-- What stands in a map, and what a list of things has that gets longer.
use Rattle.std.proofs.Common.{◌≡◌, ℕ, ◌<◌, ◌⊎◌, Bool, true, false, cond, inl, inr, zero, suc, List, [], ◌∷◌, ◌++◌, length, refl, sym, ◌∙◌, ap, subst, arith, Some, None, Option}
use Rattle.std.specs.Prelude.{slice_get, slice_index_or, IfSome}
use Rattle.std.specs.Map.{lookup}
use Rattle.std.proofs.lemmas.List.{append_assoc, append-nil, length-append}
use Rattle.indexmap.specs.IndexMap.{insert_entry}
use Rattle.ltl_spec.specs.Collections.Lists.{with_new}
use Rattle.ltl_spec.specs.Collections.Sets.{Has}
use Rattle.ltl_spec.proofs.Automata.ListingLaws.{with_new_behind}

-- ---- maps

module _ {K V : Type 0} where
  -- what is found stands there
  pub entry_passes : (test : K → Bool) (es : List (K × V)) (v : V) → lookup test es ≡ Some v → (k : K) × Has es (k, v) × (test k ≡ true)
  entry_passes test [] v e = cc
  entry_passes test (x ∷ es) v e = at (test x.0) refl (λ f. entry_passes test es v f) e
    where
      at : (b : Bool) → test x.0 ≡ b → (lookup test es ≡ Some v → (k : K) × Has es (k, v) × (test k ≡ true)) → cond b (Some x.1) (lookup test es) ≡ Some v → (k : K) × Has (x ∷ es) (k, v) × (test k ≡ true)
      at true d rest f = (x.0, inl (let g : v ≡ x.1 = cc in λ i. (x.0, g i)), d)
      at false d rest f = let (k, h, p) = rest f in (k, inr h, p)

  -- after one more was put in there is it, and what was there
  pub entry_cases : (eq : K → K → Bool) (es : List (K × V)) (k a : K) (v b : V) → Has (insert_entry eq es k v) (a, b) → Has es (a, b) ⊎ (((a ≡ k) ⊎ (eq k a ≡ true)) × (b ≡ v))
  entry_cases eq [] k a v b (inl e) = inr (inl (ap (λ p. p.0) e), ap (λ p. p.1) e)
  entry_cases eq [] k a v b (inr z) = absurd z
  entry_cases eq (e ∷ es) k a v b h = at (eq k e.0) refl (λ m. entry_cases eq es k a v b m) h
    where
      at : (c : Bool) → eq k e.0 ≡ c → (Has (insert_entry eq es k v) (a, b) → Has es (a, b) ⊎ (((a ≡ k) ⊎ (eq k a ≡ true)) × (b ≡ v))) → Has (cond c ((e.0, v) ∷ es) (e ∷ insert_entry eq es k v)) (a, b)
          → Has (e ∷ es) (a, b) ⊎ (((a ≡ k) ⊎ (eq k a ≡ true)) × (b ≡ v))
      at true d rest (inl p) = inr (inr (ap (eq k) (ap (λ q. q.0) p) ∙ d), ap (λ q. q.1) p)
      at true d rest (inr m) = inl (inr m)
      at false d rest (inl p) = inl (inl p)
      at false d rest (inr m) = elim (rest m) [ inl x ↦ inl (inr x) | inr y ↦ inr y ]

  module _ (eq : K → K → Bool) (exact : (x y : K) → eq x y ≡ true → x ≡ y) where
    -- the same where only equal keys are the same
    pub map_known : (P : V → Type 0) (k : K) (es : List (K × V)) (o : Option V) → o ≡ lookup (eq k) es → ((v : V) → Has es (k, v) → P v) → IfSome o P
    map_known P k es None e f = tt
    map_known P k es (Some v) e f = let (a, h, p) = entry_passes (eq k) es v (sym e) in f v (subst (λ x. Has es (x, v)) (sym (exact k a p)) h)

    pub exact_cases : (es : List (K × V)) (k a : K) (v b : V) → Has (insert_entry eq es k v) (a, b) → Has es (a, b) ⊎ ((a ≡ k) × (b ≡ v))
    exact_cases es k a v b h = elim (entry_cases eq es k a v b h) [
      | inl m ↦ inl m
      | inr m ↦ elim m.0 [ inl e ↦ inr (e, m.1) | inr e ↦ inr (sym (exact k a e), m.1) ]
    ]

-- ---- lists

pub at_last : {K : Type 0} (xs : List K) (y d : K) (i : ℕ) → i ≡ length xs → slice_index_or (xs ++ y ∷ []) i d ≡ y
at_last [] y d zero e = refl
at_last [] y d (suc i) e = absurd (omega arith)
at_last (x ∷ xs) y d zero e = absurd (omega arith)
at_last (x ∷ xs) y d (suc i) e = at_last xs y d i (omega arith)

pub at_before : {K : Type 0} (xs ys : List K) (d : K) (i : ℕ) → i < length xs → slice_index_or (xs ++ ys) i d ≡ slice_index_or xs i d
at_before [] ys d i l = absurd (omega arith)
at_before (x ∷ xs) ys d zero l = refl
at_before (x ∷ xs) ys d (suc i) l = at_before xs ys d i (omega arith)

-- some things more stand behind the others
abbrev pub Longer : {X : Type 0} → List X → List X → Type 0
Longer {X} old new = (more : List X) × (new ≡ old ++ more)

module _ {X : Type 0} where
  pub longer_same : (xs : List X) → Longer xs xs
  longer_same xs = ([], sym (append-nil xs))

  pub longer_trans : (a b c : List X) → Longer a b → Longer b c → Longer a c
  longer_trans a b c (x, e) (y, f) = (x ++ y, f ∙ ap (λ z. z ++ y) e ∙ append_assoc a x y)

  pub longer_within : (old new : List X) → Longer old new → (k : ℕ) → k < length old → k < length new
  longer_within old new (more, e) k l = let c = ap length e ∙ length-append old more in omega arith

  pub longer_there : (d : X) (old new : List X) → Longer old new → (k : ℕ) → k < length old → slice_index_or new k d ≡ slice_index_or old k d
  longer_there d old new (more, e) k l = ap (λ xs. slice_index_or xs k d) e ∙ at_before old more d k l

  -- with one that is new, if it is
  pub longer_new : (same : X → X → Bool) (old new : List X) (x : X) → new ≡ with_new same old x → Longer old new
  longer_new same old new x e = let w = with_new_behind same old x in (w.0, e ∙ w.1)

  -- what was found stands under its number
  pub stored_at : (d : X) (xs : List X) (k : ℕ) (x : X) → slice_get xs k ≡ Some x → (k < length xs) × (slice_index_or xs k d ≡ x)
  stored_at d [] k x e = absurd (never e)
    where
      never : None ≡ Some x → ⊥
      never q = cc
  stored_at d (y ∷ ys) zero x e = (omega arith, cc)
  stored_at d (y ∷ ys) (suc k) x e = let w = stored_at d ys k x e in (omega (arith, w.0), w.1)
