-- Once each step was looked at, from the last one on, the operands of each needed step are needed.
use Rattle.std.proofs.Common.{◌≡◌, ◌≢◌, ℕ, zero, suc, ◌+◌, ◌<◌, ◌≤◌, Bool, true, false, ◌⊎◌, inl, inr, List, [], ◌∷◌, ◌++◌, length, refl, sym, subst, arith}
use Rattle.std.specs.Prelude.{slice_index_or, slice_set, ◌==◌}
use Rattle.std.proofs.lemmas.Bool.Decides.{nat_tests}
use Rattle.std.proofs.lemmas.List.{length-set}
use Rattle.ltl_spec.specs.Collections.Sets.{Has}
use Rattle.ltl_spec.proofs.Collections.SetLaws.{append_cases}
use Rattle.ltl_spec.proofs.Transitions.Steps.{Step, Always, Never, Reads, Leads, Both, Either, IsOperand}
use Rattle.ltl_spec.proofs.Transitions.WantedSteps.{want_operands, want_step, wanted_now, wanted_still}
use Rattle.ltl_alt.specs.NeedsView.{IsNeeded}

pub same_or_other : (i j : ℕ) → (i ≡ j) ⊎ (i ≢ j)
same_or_other i j = at (i == j) refl
  where
    same : (i == j) ≡ true → i ≡ j
    same e = grind (arith, nat_tests)

    other : (i == j) ≡ false → i ≢ j
    other e = grind (arith, nat_tests)

    at : (b : Bool) → (i == j) ≡ b → (i ≡ j) ⊎ (i ≢ j)
    at true e = inl (same e)
    at false e = inr (other e)

-- within a list nothing stands in for what is there
pub same_default : {K : Type 0} (xs : List K) (i : ℕ) (d e : K) → i < length xs → slice_index_or xs i d ≡ slice_index_or xs i e
same_default [] i d e l = absurd (omega arith)
same_default (x ∷ xs) zero d e l = refl
same_default (x ∷ xs) (suc i) d e l = same_default xs i d e (omega arith)

-- ---- one step

module _ (ns : List Bool) (n : ℕ) (below : n ≤ length ns) where
  two_still : (i j : ℕ) → i < n → j < n → (k : ℕ) → IsNeeded ns k → IsNeeded (want_step (want_step ns i) j) k
  two_still i j l m k e =
      let c = length-set ns i true in
      wanted_still (want_step ns i) j (omega arith) k (wanted_still ns i (omega arith) k e)

  -- what was needed still is
  pub needed_still : (s : Step) → ((j : ℕ) → IsOperand s j → j < n) → (k : ℕ) → IsNeeded ns k → IsNeeded (want_operands ns s) k
  needed_still Always b k e = e
  needed_still Never b k e = e
  needed_still (Reads l) b k e = e
  needed_still (Leads m) b k e = e
  needed_still (Both i j) b k e = two_still i j (b i (inl refl)) (b j (inr refl)) k e
  needed_still (Either i j) b k e = two_still i j (b i (inl refl)) (b j (inr refl)) k e

-- ---- one root more

abbrev pub AreRootsNeeded : List ℕ → List Bool → Type 0
AreRootsNeeded roots ns = (k : ℕ) → Has roots k → IsNeeded ns k

pub root_more : (roots more : List ℕ) (k : ℕ) (ns new : List Bool) → more ≡ roots ++ k ∷ [] → new ≡ slice_set ns k true → k < length ns → AreRootsNeeded roots ns → AreRootsNeeded more new
root_more roots more k ns new e f l a j h = subst (λ xs. IsNeeded xs j) (sym f) (elim (append_cases roots (k ∷ []) j (subst (λ xs. Has xs j) e h)) [
  | inl m ↦ wanted_still ns k l j (a j m)
  | inr m ↦ elim m [ inl d ↦ subst (λ x. IsNeeded (want_step ns k) x) (sym d) (wanted_now ns k l) | inr z ↦ absurd z ]
])
