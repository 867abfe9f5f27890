-- Where the formula holds the generalized automaton has a run.
use Rattle.std.proofs.Common.{◌≡◌, ℕ, zero, suc, ◌+◌, ◌<◌, ◌≤◌, Bool, true, false, not, ◌||◌, ◌⊎◌, inl, inr, [], ◌∷◌, length, refl, sym, ◌∙◌, ap, subst, arith}
use Rattle.std.specs.Prelude.{slice_index_or}
use Rattle.std.specs.List.{list_any}
use Rattle.std.specs.Ordering.{nat_cmp}
use Rattle.std.proofs.lemmas.Bool.{and_from, or_right}
use Rattle.ltl_spec.specs.Collections.Sets.{Has, has}
use Rattle.ltl_spec.specs.Semantics.Word.{after_steps}
use Rattle.ltl_spec.specs.NormalForms.Normal.{Normal, Bottom, Until}
use Rattle.ltl_spec.specs.NormalForms.NormalForm.{is_until, rows, until_rows}
use Rattle.ltl_spec.specs.Semantics.NormalSatisfaction.{Holds}
use Rattle.ltl_spec.specs.Transitions.Pairs.{RowSet, Pair, empty_pair, pairs}
use Rattle.ltl_spec.specs.Transitions.RowTransitions.{Table, table_of, place, fulfils, is_marked, with_marks, Transition, transitions}
use Rattle.ltl_spec.specs.Automata.Generalized.{root_set}
use Rattle.ltl_spec.proofs.Collections.SetLaws.{Has-set_of, has_Decides, is_subset_Decides, filter_cases}
use Rattle.ltl_spec.proofs.Collections.ListLaws.{Has-at, Has-places}
use Rattle.ltl_spec.proofs.Collections.Orders.{nat_linear, literal_linear, pair_linear}
use Rattle.ltl_spec.proofs.Collections.MemberLaws.{any_true}
use Rattle.ltl_spec.proofs.Transitions.CubeLaws.{Agrees, allows_Decides}
use Rattle.ltl_spec.proofs.Transitions.JoinLaws.{Within}
use Rattle.ltl_spec.proofs.Transitions.TransitionLaws.{joined, transition_cases, transition_implies}
use Rattle.ltl_spec.proofs.Transitions.PartLaws.{IsRow, row_of, elementary_has, core_has, row_at_place}
use Rattle.ltl_spec.proofs.Semantics.PickLaws.{RowsHold, IsPrompt, pick_all}
use Rattle.ltl_spec.proofs.Semantics.RowRuns.{RowRun}
use Rattle.ltl_spec.proofs.Collections.CaseLaws.{false_is_true}
use Rattle.ltl_spec.proofs.Semantics.StepLaws.{after_last}

-- an until row has two parts
until_is : (F : Normal) → is_until F ≡ true → (a : Normal) × (b : Normal) × (F ≡ Until a b)
until_is (Until a b) e = (a, b, refl)
until_is _ e = false_is_true e

-- what would give something false is false
refused : {P : Type 0} (s : Bool) → (s ≡ true → P) → ¬ P → s ≡ false
refused true f n = absurd (n (f refl))
refused false f n = refl

-- a pair above one of the until row that doesn't put it off is marked
marked_above : (t : Table) (F : Normal) (p q : Pair) → Has (pairs (place t) F) q → Within q p → ¬ (Has q.targets (place t F)) → is_marked t p F ≡ true
marked_above t F p q h w n = or_right (not (has nat_cmp (place t F) p.targets)) _ (any_true (fulfils t F p) (pairs (place t) F) q h fulfilled)
  where
    not_later : not (has nat_cmp (place t F) q.targets) ≡ true
    not_later = ap not (refused (has nat_cmp (place t F) q.targets) (has_Decides nat_linear (place t F) q.targets).0 n)

    fulfilled : fulfils t F p q ≡ true
    fulfilled = and_from _ _ (and_from _ _ ((is_subset_Decides literal_linear q.cube p.cube).1 w.cube) not_later) ((is_subset_Decides nat_linear q.targets p.targets).1 w.targets)

-- a pair that isn't marked has the until row as a target
marked_or_asked : (t : Table) (p : Pair) (F : Normal) → (is_marked t p F ≡ true) ⊎ Has p.targets (place t F)
marked_or_asked t p F =
    elim (has nat_cmp (place t F) p.targets) as (λ s. has nat_cmp (place t F) p.targets ≡ s → ((not s || list_any (fulfils t F p) (pairs (place t) F)) ≡ true) ⊎ Has p.targets (place t F)) [
      | true ↦ λ e. inr ((has_Decides nat_linear (place t F) p.targets).0 e)
      | false ↦ λ e. inl refl
    ] refl

-- a marked until row's place is among the marks
Has-mark : (core : Normal) (p : Pair) (F : Normal) (f : ℕ) → f < length (until_rows core) → slice_index_or (until_rows core) f Bottom ≡ F → is_marked (table_of core) p F ≡ true → Has (with_marks (table_of core) p).marks f
Has-mark core p F f l at e =
    let z : 0 + f ≡ f = omega arith in
    subst (Has (with_marks (table_of core) p).marks) z (Has-places (is_marked (table_of core) p) 0 (until_rows core) Bottom f l (ap (is_marked (table_of core) p) at ∙ e))

module _ (core : Normal) (keep : Bool) (truth : ℕ → ℕ → Bool) (step : ℕ → ℕ) where
  -- the table of the formula
  abbrev t : Table
  t = table_of core

  -- a transition of the set that may be taken, with targets that hold next. It puts off no until row whose second part holds
  record Step (e : RowSet) (i : ℕ) : Type 0 where
    transition : Transition
    among : Has (transitions (table_of core) keep e) transition
    agrees : Agrees (truth i) transition.cube
    holds : RowsHold core truth step transition.targets (step i)
    prompt : (a b : Normal) (f : ℕ) → IsRow core (Until a b) → f < length (until_rows core) → slice_index_or (until_rows core) f Bottom ≡ Until a b → Has e (place (table_of core) (Until a b)) → Holds truth step b i → Has transition.marks f

  module _ (decide : (F : Normal) (i : ℕ) → Dec (Holds truth step F i)) where
    -- there is such a transition wherever the rows hold
    one_step : (e : RowSet) (i : ℕ) → RowsHold core truth step e i → Step e i
    one_step e i h =
        let (r, k, m, _, c) = pick_all core truth step decide e i (empty_pair ∷ []) empty_pair (inl refl) (record { agrees = λ l x. absurd x; holds = λ j x. absurd x }) h in
        let (u, n, w) = transition_implies t keep e r (Has-set_of pair_linear (joined t (empty_pair ∷ []) e) r k) in
        record {
          transition = u;
          among = n;
          agrees = λ l x. m.agrees l (w.cube l x);
          holds = λ j x. m.holds j (w.targets j x);
          prompt = λ a b f q l at asked g.
              let (p, v, y, z) = c (place t (Until a b)) asked in
              let row = row_at_place core (Until a b) (elementary_has core (Until a b) q refl) in
              let prompt : IsPrompt core truth step (Until a b) p i = subst (λ x. IsPrompt core truth step x p i) row z in
              w.marks f (Has-mark core r (Until a b) f l at (marked_above t (Until a b) r p (subst (λ x. Has (pairs (place t) x) p) row v) y (prompt g)));
        }

    -- the set of rows at each time, which hold
    abbrev Situation : ℕ → Type 0
    Situation k = (e : RowSet) × RowsHold core truth step e (after_steps step k 0)

    module _ (h : Holds truth step core 0) where
      -- the root holds at first
      root_holds : RowsHold core truth step (root_set core keep) 0
      root_holds k (inl d) = subst (λ x. Holds truth step x 0) (sym (ap (row_of core) d ∙ row_at_place core core (core_has core))) h
      root_holds k (inr x) = absurd x

      -- from each time to the next
      situation : (k : ℕ) → Situation k
      situation zero = (root_set core keep, root_holds)
      situation (suc k) =
          let s = situation k in
          let x = one_step s.0 (after_steps step k 0) s.1 in
          (x.transition.targets, subst (RowsHold core truth step x.transition.targets) (sym (after_last step k 0)) x.holds)

      -- the transition at each time
      taken : (k : ℕ) → Step (situation k).0 (after_steps step k 0)
      taken k = one_step (situation k).0 (after_steps step k 0) (situation k).1

      -- it begins at the root
      begins : (situation 0).0 ≡ root_set core keep
      unfolding situation
      begins = refl

      -- and goes on at the targets
      goes_on : (k : ℕ) → (situation (suc k)).0 ≡ (taken k).transition.targets
      unfolding situation taken
      goes_on k = refl

      module _ (a b : Normal) (f : ℕ) (q : IsRow core (Until a b)) (l : f < length (until_rows core)) (at : slice_index_or (until_rows core) f Bottom ≡ Until a b) where
        -- at each time the until row is marked, or asked for next
        now_or_next : (k : ℕ) → Has (taken k).transition.marks f ⊎ Has (situation (suc k)).0 (place t (Until a b))
        now_or_next k =
            let (p, n, e) = transition_cases t keep (situation k).0 (taken k).transition (taken k).among in
            elim (marked_or_asked t p (Until a b)) [
              | inl m ↦ inl (subst (λ (u : Transition). Has u.marks f) (sym e) (Has-mark core p (Until a b) f l at m))
              | inr m ↦ inr (subst (λ x. Has x (place t (Until a b))) (sym (goes_on k ∙ ap (λ (u : Transition). u.targets) e)) m)
            ]

        -- once it is asked for, a mark comes when its second part holds or before
        marked_soon : (d k : ℕ) → Has (situation k).0 (place t (Until a b)) → Holds truth step b (after_steps step d (after_steps step k 0)) → (j : ℕ) × (k ≤ j) × Has (taken j).transition.marks f
        marked_soon zero k m g = (k, omega arith, (taken k).prompt a b f q l at m g)
        marked_soon (suc d) k m g = elim (now_or_next k) [
          | inl n ↦ (k, omega arith, n)
          | inr n ↦
              let (j, o, x) = marked_soon d (suc k) n (subst (λ i. Holds truth step b (after_steps step d i)) (sym (after_last step k 0)) g) in
              (j, omega arith, x)
        ]

        -- so from each time on a mark comes
        marked_again : (k : ℕ) → (j : ℕ) × (k ≤ j) × Has (taken j).transition.marks f
        marked_again k = elim (now_or_next k) [
          | inl n ↦ (k, omega arith, n)
          | inr n ↦
              let holds = subst (λ x. Holds truth step x (after_steps step (suc k) 0)) (row_at_place core (Until a b) (elementary_has core (Until a b) q refl)) ((situation (suc k)).1 (place t (Until a b)) n) in
              let (j, o, x) = marked_soon holds.0 (suc k) n holds.1 in
              (j, omega arith, x)
        ]

      -- for each until row
      each_marked : (f k : ℕ) → f < length (until_rows core) → (j : ℕ) × (k ≤ j) × Has (taken j).transition.marks f
      each_marked f k l =
          let row = slice_index_or (until_rows core) f Bottom in
          let w = filter_cases is_until (rows core) row (Has-at (until_rows core) f Bottom l) in
          let (a, b, e) = until_is row w.1 in
          marked_again a b f (subst (IsRow core) e w.0) l e k

      -- the run over sets of rows
      pub rows_of_holds : RowRun core keep truth step
      rows_of_holds = record {
        set = λ k. (situation k).0;
        transition = λ k. (taken k).transition;
        starts = begins;
        among = λ k. (taken k).among;
        leads = goes_on;
        allowed = λ k. (allows_Decides (truth (after_steps step k 0)) (taken k).transition.cube).1 (taken k).agrees;
        marks = each_marked;
      }
