-- Paths with the sets of their edges.
use Rattle.std.proofs.Common.{◌≡◌, ℕ, true, List, [], ◌∷◌, ◌++◌, inl, inr, refl, sym, subst, arith}
use Rattle.std.specs.Ordering.{nat_cmp}
use Rattle.ltl_spec.specs.Collections.Sets.{union}
use Rattle.ltl_check.specs.declared.graph.Step.{Step}
use Rattle.ltl_check.specs.declared.walk.Taken.{Taken}
use Rattle.ltl_check.specs.Marks.{in_set}
use Rattle.ltl_check.specs.Nets.{Net, IsSuccessor, IsStepPath}
use Rattle.ltl_check.specs.Levels.{Takes}
use Rattle.ltl_check.specs.Breadth.{IsPaid}
use Rattle.ltl_check.specs.Paths.{IsPathWith}
use Rattle.ltl_check.proofs.PlaceLaws.{in_union}
use Rattle.ltl_check.proofs.StepPathLaws.{path_push}

-- no look
pub paid_none : (old left : ℕ) → IsPaid old old left left
paid_none old left = (omega arith, inl (omega arith, refl))

module _ (N : Net) where
  takes_left : (j : ℕ) (ts : List Taken) (t : Taken) → Takes N ts j → Takes N (ts ++ t ∷ []) j
  takes_left j [] t h = absurd h
  takes_left j (u ∷ us) t (inl h) = inl h
  takes_left j (u ∷ us) t (inr h) = inr (takes_left j us t h)

  takes_last : (j : ℕ) (ts : List Taken) (t : Taken) (a : Step ℕ) → IsSuccessor N t.state t.pick a → in_set a.marks j ≡ true → Takes N (ts ++ t ∷ []) j
  takes_last j [] t a i m = inl (a, i, m)
  takes_last j (u ∷ us) t a i m = inr (takes_last j us t a i m)

  -- one edge more
  pub path_more : (from end : ℕ) (ts us : List Taken) (marks ms : List ℕ) (t : Taken) (a : Step ℕ) → IsPathWith N from ts end marks → t.state ≡ end → IsSuccessor N t.state t.pick a → t.letter ≡ a.letter → us ≡ ts ++ t ∷ []
      → ms ≡ union nat_cmp marks a.marks → IsPathWith N from us a.target ms
  path_more from end ts us marks ms t a p s i l e m =
      rw (e, m) (record {
        leads = path_push N from a.target ts t a (subst (IsStepPath N from ts) (sym s) p.leads) i (sym l) refl;
        takes = λ j h. elim (in_union marks a.marks j h) [ inl k ↦ takes_left j ts t (p.takes j k) | inr k ↦ takes_last j ts t a i k ];
      })
