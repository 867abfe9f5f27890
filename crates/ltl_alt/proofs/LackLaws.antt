-- A pair that lacks nothing that another one needs fulfils the same until rows, whatever comes to both.
use Rattle.std.proofs.Common.{◌≡◌, ℕ, zero, suc, ◌<◌, Bool, true, false, inl, inr, List, [], ◌∷◌, length, map, take, refl, sym, ◌∙◌, ap, subst, arith}
use Rattle.std.specs.Prelude.{slice_index_or}
use Rattle.std.specs.Ordering.{nat_cmp}
use Rattle.std.proofs.lemmas.Bool.{cases_lt}
use Rattle.std.proofs.lemmas.List.{get_or_past, length-map, length-take-le}
use Rattle.std.proofs.lemmas.Option.{slice_get-get_or}
use Rattle.ltl_spec.specs.Collections.Sets.{Has, has}
use Rattle.ltl_spec.specs.NormalForms.Normal.{Normal, Bottom}
use Rattle.ltl_spec.specs.Transitions.Pairs.{RowSet, Pair, Within}
use Rattle.ltl_spec.specs.Transitions.RowTransitions.{Table, table_of, place}
use Rattle.ltl_spec.specs.Transitions.Pruning.{IsSafeToDrop, is_counted}
use Rattle.ltl_spec.proofs.Collections.SetLaws.{union_cases}
use Rattle.ltl_spec.proofs.Collections.Orders.{nat_linear, literal_linear}
use Rattle.ltl_spec.proofs.Collections.CaseLaws.{false_is_true}
use Rattle.ltl_spec.proofs.Transitions.JoinLaws.{within_refl, within_trans, united, within_left, within_right, IsConsistent}
use Rattle.ltl_spec.proofs.Transitions.SafeLaws.{consistent_within, united_within, safe_from}
use Rattle.ltl_spec.proofs.Transitions.IndependenceTests.{Support, Has-names, support_of, names_of_sign, shares_row, shares_sign, shares_some}
use Rattle.ltl_spec.proofs.Transitions.Fulfilment as by
use Rattle.ltl_spec.proofs.Transitions.Fulfilment.{Test, passes, until_test}
use Rattle.ltl_spec.proofs.Transitions.FulfilmentLaws.{Passes, passes_Decides, passes_more, marked_passes, passes_marked}
use Rattle.ltl_spec.proofs.Transitions.Steps as steps
use Rattle.ltl_spec.proofs.Transitions.Steps.{test_at, step_test, tests_of, IsOperand}
use Rattle.ltl_spec.proofs.Transitions.StepLaws.{answer_at, tests_length, test_earlier, test_of_step}
use Rattle.ltl_spec.proofs.Transitions.WantedSteps.{AreWanted}
use Rattle.ltl_alt.specs.WantedView.{AreLeavesFrom, AreCountedSteps, AreSteps, IsLack, IsLeafIn}
use Rattle.ltl_alt.specs.Tests.{AreTests, step_of, steps_of, test_of}
use Rattle.ltl_alt.specs.declared.fulfilment.Fulfilment.{Fulfilment}
use Rattle.ltl_alt.specs.declared.fulfilment.UntilTest.{UntilTest}

-- ---- by steps

-- u needs no more than t, and t nothing that u lacks. Where t with x passes a wanted step, u with x does
module _ (t u x : Pair) (less : Within u t) (ss : List steps.Step) (wanted : List Bool) (a : AreWanted u ss wanted)
    (v : Support) (leaves : AreLeavesFrom 0 (map (passes u) (tests_of ss)) ss wanted v) (independent : shares_some v (support_of t) ≡ false) where
  abbrev Through : Test → Type 0
  Through b = Passes (united t x) b → Passes (united u x) b

  -- where u passes u with x does
  by_answer : (b : Test) → (passes u b ≡ false → Through b) → Through b
  by_answer b inner h = at (passes u b) refl
    where
      at : (c : Bool) → passes u b ≡ c → Passes (united u x) b
      at true e = passes_more u (united u x) b (within_left u x) ((passes_Decides u b).0 e)
      at false e = inner e h

  step_through : (i : ℕ) → i < length ss → slice_index_or wanted i false ≡ true → ((k : ℕ) → k < i → slice_index_or wanted k false ≡ true → Through (test_at (tests_of ss) k)) → Through (test_at (tests_of ss) i)
  step_through i m g earlier = by_answer (test_at (tests_of ss) i) (λ o. subst Through (sym (test_of_step ss i m)) (at (slice_index_or ss i steps.Always) refl o))
    where
      before : List Test
      before = tests_of (take i ss)

      leaf : (z : steps.Step) → slice_index_or ss i steps.Always ≡ z → passes u (test_at (tests_of ss) i) ≡ false → IsLeafIn v z
      leaf z e o = subst (IsLeafIn v) e (leaves i (omega arith) m g (answer_at u (tests_of ss) i ∙ o))

      operand : (z : steps.Step) → slice_index_or ss i steps.Always ≡ z → passes u (test_at (tests_of ss) i) ≡ false → (k : ℕ) → IsOperand z k → Through (test_at before k)
      operand z e o k w =
          let f = a i m g o k (subst (λ y. IsOperand y k) (sym e) w) in
          elim (cases_lt k i) [
            | inl l ↦ subst Through (test_earlier ss i k l (omega arith)) (earlier k l f)
            | inr l ↦
                let d = tests_length (take i ss) in
                let c = length-take-le i ss (omega arith) in
                subst Through (sym (get_or_past before k by.Never (omega arith))) (λ h. h)
          ]

      at : (z : steps.Step) → slice_index_or ss i steps.Always ≡ z → passes u (test_at (tests_of ss) i) ≡ false → Through (step_test before z)
      at steps.Always e o h = tt
      at steps.Never e o h = h
      at (steps.Reads l) e o h = elim (union_cases literal_linear t.cube x.cube l h) [
        | inl k ↦ false_is_true (sym independent ∙ shares_sign v (support_of t) l.positive l.proposition (leaf (steps.Reads l) e o) (names_of_sign t l.positive l.proposition (Has-names t.cube l k)))
        | inr k ↦ (within_right u x).cube l k
      ]
      at (steps.Leads j) e o h = elim (union_cases nat_linear t.targets x.targets j h) [
        | inl k ↦ false_is_true (sym independent ∙ shares_row v (support_of t) j (leaf (steps.Leads j) e o) k)
        | inr k ↦ (within_right u x).targets j k
      ]
      at (steps.Both j k) e o h = (operand (steps.Both j k) e o j (inl refl) h.0, operand (steps.Both j k) e o k (inr refl) h.1)
      at (steps.Either j k) e o (inl h) = inl (operand (steps.Either j k) e o j (inl refl) h)
      at (steps.Either j k) e o (inr h) = inr (operand (steps.Either j k) e o k (inr refl) h)

  below_through : (m i : ℕ) → i < m → i < length ss → slice_index_or wanted i false ≡ true → Through (test_at (tests_of ss) i)
  below_through zero i l g h = absurd (omega arith)
  below_through (suc m) i l g h = step_through i g h (λ k d f. below_through m k (omega arith) (omega arith) f)

  pub wanted_through : (i : ℕ) → i < length ss → slice_index_or wanted i false ≡ true → Through (test_at (tests_of ss) i)
  wanted_through i l g = below_through (suc i) i (omega arith) l g

-- ---- safe to drop

-- each element stands at a place
index_of : (xs : List Normal) (x : Normal) → Has xs x → (i : ℕ) × (i < length xs) × (slice_index_or xs i Bottom ≡ x)
index_of [] x h = absurd h
index_of (y ∷ ys) x (inl e) = (0, omega arith, sym e)
index_of (y ∷ ys) x (inr h) = let (i, l, e) = index_of ys x h in (suc i, omega arith, e)

pub sound_steps : {A : Type 0} (T : Table) (f : Fulfilment A) → AreTests T f → AreSteps f
sound_steps T f w = record { earlier = w.earlier; leaves = w.leaves }

module _ {A : Type 0} (T : Table) (f : Fulfilment A) (tests : AreTests T f) (counted : RowSet) (roots : List ℕ) (all : AreCountedSteps f.untils.items counted roots)
    (t u core : Pair) (v : Support) (lack : IsLack f roots core v) (independent : shares_some v (support_of t) ≡ false) (less : Within u t) (smaller : Within core u) where
  -- the test of each until row that counts is one of the roots
  until_through : (x : Pair) → IsConsistent (united t x) → (F : Normal) → Has T.untils F → is_counted T counted F ≡ true → Passes (united t x) (until_test (place T) F) → Passes (united u x) (until_test (place T) F)
  until_through x n F h counts p =
      let (i, l, e) = index_of T.untils F h in
      let count = tests.count in
      let d : UntilTest = record { place = 0; step = 0 } in
      let y = slice_index_or f.untils.items i d in
      let found = slice_get-get_or f.untils.items i d (omega arith) in
      let w = tests.each i y found in
      let is : test_of f.steps.items y.step ≡ until_test (place T) F = w.test ∙ ap (until_test (place T)) e in
      let inside : y.step < length (steps_of f.steps.items) = subst (λ m. y.step < m) (sym (length-map f.steps.items step_of)) w.below in
      let lacked = lack (sound_steps T f tests) in
      let here : has nat_cmp y.place counted ≡ true = ap (λ k. has nat_cmp k counted) (w.place_of ∙ ap (place T) e) ∙ counts in
      let root = all i y found here in
      passes_more (united core x) (united u x) (until_test (place T) F) (united_within core u x x smaller (within_refl x))
      (subst (λ b. Passes (united t x) b → Passes (united core x) b) is
      (wanted_through t core x (within_trans core u t smaller less) (steps_of f.steps.items) lacked.wanted lacked.operands v lacked.leaves independent y.step inside (lacked.rooted y.step root inside)) p)

  -- so the one may stand for the other
  pub lack_safe : IsSafeToDrop T counted t u
  lack_safe = subst (λ X. IsSafeToDrop X counted t u) (sym tests.is_table) (safe_from (table_of tests.core) counted t u less (λ x n F h counts m.
      let both = united_within u t x x less (within_refl x) in
      passes_marked tests.core F h (united u x) (consistent_within (united u x) (united t x) both n) (λ k.
      let passed = marked_passes tests.core F h (united t x) n m (both.targets (place (table_of tests.core) F) k) in
      subst (λ (X : Table). Has X.untils F → is_counted X counted F ≡ true → Passes (united t x) (until_test (place X) F) → Passes (united u x) (until_test (place X) F)) tests.is_table (until_through x n F) h counts passed)))
