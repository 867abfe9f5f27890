-- The steps of a list of tests that are wanted for a pair: one backward pass over the steps finds them.
use Rattle.std.proofs.Common.{◌≡◌, Bool, true, false, ℕ, ◌+◌, ◌<◌, ◌≤◌, ◌⊎◌, inl, inr, List, length, map, refl, sym, ◌∙◌, ap, subst, arith}
use Rattle.std.specs.Prelude.{slice_index_or, slice_set}
use Rattle.std.proofs.lemmas.Bool.{cases_eq}
use Rattle.std.proofs.lemmas.List.{length-set, get_or-set_same, get_or-set_other}
use Rattle.ltl_spec.specs.Transitions.Pairs.{Pair}
use Rattle.ltl_spec.proofs.Collections.CaseLaws.{false_is_true, here_or_above}
use Rattle.ltl_spec.proofs.Transitions.Fulfilment.{passes}
use Rattle.ltl_spec.proofs.Transitions.Steps.{Step, Always, Never, Reads, Leads, Both, Either, test_at, tests_of, IsOperand}
use Rattle.ltl_spec.proofs.Transitions.StepLaws.{answer_at}

-- the operands of each wanted step that the pair doesn't pass are wanted
abbrev pub AreWanted : Pair → List Step → List Bool → Type 0
AreWanted p steps wanted = (i : ℕ) → i < length steps → slice_index_or wanted i false ≡ true → passes p (test_at (tests_of steps) i) ≡ false
    → (k : ℕ) → IsOperand (slice_index_or steps i Always) k → slice_index_or wanted k false ≡ true

-- wants a step
abbrev pub want_step : List Bool → ℕ → List Bool
want_step wanted i = slice_set wanted i true

-- wants the operands of a step
abbrev pub want_operands : List Bool → Step → List Bool
want_operands wanted Always = wanted
want_operands wanted Never = wanted
want_operands wanted (Reads l) = wanted
want_operands wanted (Leads k) = wanted
want_operands wanted (Both i j) = want_step (want_step wanted i) j
want_operands wanted (Either i j) = want_step (want_step wanted i) j

-- of the steps from number n on, the operands of each wanted one that isn't passed are wanted
pub record AreWantedFrom (n : ℕ) (answers : List Bool) (steps : List Step) (wanted : List Bool) : Type 0 where
  pub count : length wanted ≡ length steps
  pub below : (i : ℕ) → n ≤ i → i < length steps → slice_index_or wanted i false ≡ true → slice_index_or answers i false ≡ false
      → (k : ℕ) → IsOperand (slice_index_or steps i Always) k → slice_index_or wanted k false ≡ true

-- the step is wanted then
pub wanted_now : (wanted : List Bool) (i : ℕ) → i < length wanted → slice_index_or (want_step wanted i) i false ≡ true
wanted_now wanted i l = get_or-set_same wanted i true false l

-- and what was wanted still is
pub wanted_still : (wanted : List Bool) (i : ℕ) → i < length wanted → (k : ℕ) → slice_index_or wanted k false ≡ true → slice_index_or (want_step wanted i) k false ≡ true
wanted_still wanted i l k n = elim (cases_eq k i) [
  | inl e ↦ subst (λ x. slice_index_or (want_step wanted i) x false ≡ true) (sym e) (wanted_now wanted i l)
  | inr d ↦ get_or-set_other wanted i k true false d ∙ n
]

module _ (answers : List Bool) (steps : List Step) where
  -- a step before number n may be wanted
  pub wanted_more : (n : ℕ) (wanted : List Bool) → AreWantedFrom n answers steps wanted → (i : ℕ) → i < n → i < length steps → AreWantedFrom n answers steps (want_step wanted i)
  wanted_more n wanted a i l m = record {
    count = length-set wanted i true ∙ a.count;
    below = λ k g h e f j o. wanted_still wanted i inside j (a.below k g h (sym (get_or-set_other wanted i k true false (omega arith)) ∙ e) f j o);
  }
    where
      inside : i < length wanted
      inside = let c = a.count in omega arith

  -- one step back, where the operands of one that isn't passed were wanted
  wanted_back : (k : ℕ) (wanted : List Bool) → AreWantedFrom (k + 1) answers steps wanted
      → (slice_index_or wanted k false ≡ true → slice_index_or answers k false ≡ false → (j : ℕ) → IsOperand (slice_index_or steps k Always) j → slice_index_or wanted j false ≡ true)
      → AreWantedFrom k answers steps wanted
  wanted_back k wanted a here = record {
    count = a.count;
    below = λ i g h e f j o. elim (here_or_above k i g) [
      | inl d ↦ here (ap (λ x. slice_index_or wanted x false) d ∙ e) (ap (λ x. slice_index_or answers x false) d ∙ f) j (subst (λ x. IsOperand (slice_index_or steps x Always) j) (sym d) o)
      | inr l ↦ a.below i l h e f j o
    ];
  }

  -- past a step that is passed or isn't wanted
  pub wanted_closed : (k : ℕ) (wanted : List Bool) → AreWantedFrom (k + 1) answers steps wanted → (slice_index_or wanted k false ≡ false) ⊎ (slice_index_or answers k false ≡ true)
      → AreWantedFrom k answers steps wanted
  wanted_closed k wanted a n = wanted_back k wanted a (λ e f j o. elim n [ inl d ↦ false_is_true (sym d ∙ e) | inr d ↦ false_is_true (sym f ∙ d) ])

  -- past one whose operands are wanted then
  pub wanted_open : (k : ℕ) (wanted : List Bool) → AreWantedFrom (k + 1) answers steps wanted → k < length steps
      → ((j : ℕ) → IsOperand (slice_index_or steps k Always) j → j < k) → AreWantedFrom k answers steps (want_operands wanted (slice_index_or steps k Always))
  wanted_open k wanted a l earlier = at (slice_index_or steps k Always) refl
    where
      both : (i j : ℕ) → i < k → j < k → (s : Step) → slice_index_or steps k Always ≡ s → ((m : ℕ) → IsOperand s m → (m ≡ i) ⊎ (m ≡ j)) → AreWantedFrom k answers steps (want_step (want_step wanted i) j)
      both i j m n s e given =
          let one = want_step wanted i in
          let b = wanted_more (k + 1) wanted a i (omega arith) (omega arith) in
          let first : i < length wanted = let c = a.count in omega arith in
          let second : j < length one = let c = b.count in omega arith in
          wanted_back k (want_step one j) (wanted_more (k + 1) one b j (omega arith) (omega arith)) (λ _ _ x o. elim (given x (subst (λ y. IsOperand y x) e o)) [
            | inl d ↦ subst (λ y. slice_index_or (want_step one j) y false ≡ true) (sym d) (wanted_still one j second i (wanted_now wanted i first))
            | inr d ↦ subst (λ y. slice_index_or (want_step one j) y false ≡ true) (sym d) (wanted_now one j second)
          ])

      none : (s : Step) → slice_index_or steps k Always ≡ s → ((m : ℕ) → IsOperand s m → ⊥) → AreWantedFrom k answers steps wanted
      none s e given = wanted_back k wanted a (λ _ _ x o. absurd (given x (subst (λ y. IsOperand y x) e o)))

      within : (s : Step) → slice_index_or steps k Always ≡ s → (m : ℕ) → IsOperand s m → m < k
      within s e m o = earlier m (subst (λ y. IsOperand y m) (sym e) o)

      at : (s : Step) → slice_index_or steps k Always ≡ s → AreWantedFrom k answers steps (want_operands wanted s)
      at Always e = none Always e (λ m o. o)
      at Never e = none Never e (λ m o. o)
      at (Reads l') e = none (Reads l') e (λ m o. o)
      at (Leads k') e = none (Leads k') e (λ m o. o)
      at (Both i j) e = both i j (within (Both i j) e i (inl refl)) (within (Both i j) e j (inr refl)) (Both i j) e (λ m o. o)
      at (Either i j) e = both i j (within (Either i j) e i (inl refl)) (within (Either i j) e j (inr refl)) (Either i j) e (λ m o. o)

-- at the end all are wanted
pub wanted_all : (p : Pair) (steps : List Step) (wanted : List Bool) → AreWantedFrom 0 (map (passes p) (tests_of steps)) steps wanted → AreWanted p steps wanted
wanted_all p steps wanted a = λ i l e f k o. a.below i (omega arith) l e (answer_at p (tests_of steps) i ∙ f) k o
