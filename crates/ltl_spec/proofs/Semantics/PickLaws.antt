-- If a formula holds, one of its pairs is met: its literals now, its targets next. An until row isn't postponed if its second operand holds.
use Rattle.std.proofs.Common.{◌≡◌, ℕ, Bool, inl, inr, List, [], ◌∷◌, ◌++◌, map, refl, sym, ◌∙◌, ap, subst, Some}
use Rattle.std.specs.Prelude.{option_map, ⊤}
use Rattle.std.specs.Ordering.{nat_cmp}
use Rattle.ltl_spec.specs.Collections.Sets.{Has, union}
use Rattle.ltl_spec.specs.Transitions.Cubes.{Literal}
use Rattle.ltl_spec.specs.NormalForms.Normal.{Normal, Top, Bottom, Leaf, Next, And, Or, Until, Release}
use Rattle.ltl_spec.specs.NormalForms.NormalForm.{elementary_rows}
use Rattle.ltl_spec.specs.Semantics.NormalSatisfaction.{Holds}
use Rattle.ltl_spec.specs.Transitions.Pairs.{RowSet, Pair, join_pair, join, empty_pair, later_pair, conj, pairs}
use Rattle.ltl_spec.specs.Transitions.RowTransitions.{Table, table_of, place, pairs_at}
use Rattle.ltl_spec.proofs.Collections.SetLaws.{append_left, append_right, union_cases}
use Rattle.ltl_spec.proofs.Collections.Orders.{nat_linear}
use Rattle.ltl_spec.proofs.Collections.MemberLaws.{Has-map, Has-flat_map}
use Rattle.ltl_spec.proofs.Transitions.CubeLaws.{Agrees, agrees_union, join_cubes_agree}
use Rattle.ltl_spec.proofs.Transitions.JoinLaws.{Within, within_refl, within_trans, within_left, within_right, united, Has-join}
use Rattle.ltl_spec.proofs.Transitions.TransitionLaws.{joined}
use Rattle.ltl_spec.proofs.Transitions.PartLaws.{AllParts, IsRow, row_of, elementary_has, row_at_place, row_parts}
use Rattle.ltl_spec.proofs.Semantics.TargetLaws.{second_not_later}
use Rattle.ltl_spec.proofs.Semantics.UntilLaws.{until_first, release_now, release_rest}

module _ (core : Normal) (truth : ℕ → ℕ → Bool) (step : ℕ → ℕ) where
  -- the table of the formula
  abbrev t : Table
  t = table_of core

  -- all rows of the set hold
  abbrev pub RowsHold : RowSet → ℕ → Type 0
  RowsHold e i = (k : ℕ) → Has e k → Holds truth step (row_of core k) i

  -- the literals agree now, and the targets hold next
  pub record IsMet (p : Pair) (i : ℕ) : Type 0 where
    pub agrees : Agrees (truth i) p.cube
    pub holds : RowsHold p.targets (step i)

  -- the pair doesn't put off an until row whose second part holds
  abbrev pub IsPrompt : Normal → Pair → ℕ → Type 0
  IsPrompt (Until a b) q i = Holds truth step b i → ¬ (Has q.targets (place (table_of core) (Until a b)))
  IsPrompt _ q i = ⊤

  -- one of the pairs is met
  abbrev SomeMet : List Pair → ℕ → Type 0
  SomeMet ps i = (p : Pair) × Has ps p × IsMet p i

  -- one of the sets of rows holds
  abbrev SomeRowsHold : List RowSet → ℕ → Type 0
  SomeRowsHold es i = (e : RowSet) × Has es e × RowsHold e i

  -- two pairs that are met join
  met_united : (p q : Pair) (i : ℕ) → IsMet p i → IsMet q i → IsMet (united p q) i
  met_united p q i m n = record {
    agrees = agrees_union (truth i) p.cube q.cube m.agrees n.agrees;
    holds = λ k h. elim (union_cases nat_linear p.targets q.targets k h) [ inl x ↦ m.holds k x | inr x ↦ n.holds k x ];
  }

  -- since a letter agrees with both
  met_joins : (p q : Pair) (i : ℕ) → IsMet p i → IsMet q i → join_pair p q ≡ Some (united p q)
  met_joins p q i m n = ap (option_map (λ c. record { cube = c; targets = union nat_cmp p.targets q.targets })) (join_cubes_agree (truth i) p.cube q.cube m.agrees n.agrees)

  -- so one of their join is met
  join_met : (ps qs : List Pair) (i : ℕ) → SomeMet ps i → SomeMet qs i → SomeMet (join ps qs) i
  join_met ps qs i (p, h, m) (q, k, n) = (united p q, Has-join ps qs p q (united p q) h k (met_joins p q i m n), met_united p q i m n)

  -- one of a longer list
  met_left : (ps qs : List Pair) (i : ℕ) → SomeMet ps i → SomeMet (ps ++ qs) i
  met_left ps qs i (p, h, m) = (p, append_left ps qs p h, m)

  met_right : (ps qs : List Pair) (i : ℕ) → SomeMet qs i → SomeMet (ps ++ qs) i
  met_right ps qs i (p, h, m) = (p, append_right ps qs p h, m)

  -- one row alone
  one_holds : (a : Normal) (i : ℕ) → Has (elementary_rows core) a → Holds truth step a i → RowsHold (place t a ∷ []) i
  one_holds a i e h k (inl d) = subst (λ x. Holds truth step x i) (sym (ap (row_of core) d ∙ row_at_place core a e)) h
  one_holds a i e h k (inr x) = absurd x

  -- a single set of a single row
  one_conj : (a : Normal) (i : ℕ) → Has (elementary_rows core) a → Holds truth step a i → SomeRowsHold ((place t a ∷ []) ∷ []) i
  one_conj a i e h = (place t a ∷ [], inl refl, one_holds a i e h)

  -- the row holds next
  later_met : (a : Normal) (i : ℕ) → Has (elementary_rows core) a → Holds truth step a (step i) → SomeMet (later_pair (place t a) ∷ []) i
  later_met a i e h = (later_pair (place t a), inl refl, record { agrees = λ l x. absurd x; holds = one_holds a (step i) e h })

  -- a formula that holds has a set of rows that hold
  conj_pick : (F : Normal) → AllParts (IsRow core) F → (i : ℕ) → Holds truth step F i → SomeRowsHold (conj (place t) F) i
  conj_pick Top w i h = ([], inl refl, λ k x. absurd x)
  conj_pick Bottom w i h = absurd h
  conj_pick (Leaf l) w i h = one_conj (Leaf l) i (elementary_has core (Leaf l) w refl) h
  conj_pick (Next a) w i h = one_conj (Next a) i (elementary_has core (Next a) w.1 refl) h
  conj_pick (Until a b) w i h = one_conj (Until a b) i (elementary_has core (Until a b) w.2 refl) h
  conj_pick (Release a b) w i h = one_conj (Release a b) i (elementary_has core (Release a b) w.2 refl) h
  conj_pick (Or a b) w i (inl h) = let (e, k, f) = conj_pick a w.0 i h in (e, append_left (conj (place t) a) (conj (place t) b) e k, f)
  conj_pick (Or a b) w i (inr h) = let (e, k, f) = conj_pick b w.1 i h in (e, append_right (conj (place t) a) (conj (place t) b) e k, f)
  conj_pick (And a b) w i (h, g) =
      let (d, k, f) = conj_pick a w.0 i h in
      let (e, k', f') = conj_pick b w.1 i g in (
        union nat_cmp d e,
        Has-flat_map (λ d'. map (union nat_cmp d') (conj (place t) b)) (conj (place t) a) d (union nat_cmp d e) k (Has-map (union nat_cmp d) (conj (place t) b) e k'),
        λ n x. elim (union_cases nat_linear d e n x) [ inl m ↦ f n m | inr m ↦ f' n m ],
      )

  module _ (decide : (F : Normal) (i : ℕ) → Dec (Holds truth step F i)) where
    -- a pair that is met and prompt
    abbrev Picked : Normal → ℕ → Type 0
    Picked F i = (q : Pair) × Has (pairs (place t) F) q × IsMet q i × IsPrompt F q i

    -- a formula that holds has a pair that is met and prompt
    pub pick : (F : Normal) → AllParts (IsRow core) F → (i : ℕ) → Holds truth step F i → Picked F i
    pick Top w i h = (empty_pair, inl refl, record { agrees = λ l x. absurd x; holds = λ k x. absurd x }, tt)
    pick Bottom w i h = absurd h
    pick (Leaf l) w i h = (record { cube = l ∷ []; targets = [] }, inl refl, record { agrees = agrees; holds = λ k x. absurd x }, tt)
      where
        agrees : (m : Literal) → Has (l ∷ []) m → truth i m.proposition ≡ m.positive
        agrees m (inl d) = subst (λ (n : Literal). truth i n.proposition ≡ n.positive) (sym d) h
        agrees m (inr x) = absurd x
    pick (Next a) w i h =
        let (e, k, f) = conj_pick a w.0 (step i) h in
        (record { cube = []; targets = e }, Has-map (λ x. record { cube = []; targets = x }) (conj (place t) a) e k, record { agrees = λ l x. absurd x; holds = f }, tt)
    pick (And a b) w i (h, g) =
        let (p, k, m, _) = pick a w.0 i h in
        let (q, k', m', _) = pick b w.1 i g in
        let (r, n, u) = join_met (pairs (place t) a) (pairs (place t) b) i (p, k, m) (q, k', m') in
        (r, n, u, tt)
    pick (Or a b) w i (inl h) = let (q, k, m, _) = pick a w.0 i h in (q, append_left (pairs (place t) a) (pairs (place t) b) q k, m, tt)
    pick (Or a b) w i (inr h) = let (q, k, m, _) = pick b w.1 i h in (q, append_right (pairs (place t) a) (pairs (place t) b) q k, m, tt)
    pick (Until a b) w i h =
        let delayed = join (pairs (place t) a) (later_pair (place t (Until a b)) ∷ []) in
        elim (decide b i) [
          | yes g ↦ let (q, k, m, _) = pick b w.1 i g in (q, append_left (pairs (place t) b) delayed q k, m, λ _. second_not_later core a b w q k)
          | no n ↦ elim (until_first step (Holds truth step a) (Holds truth step b) i h) [
            | inl g ↦ absurd (n g)
            | inr g ↦
                let (p, k, m, _) = pick a w.0 i g.0 in
                let (r, k', u) = join_met (pairs (place t) a) (later_pair (place t (Until a b)) ∷ []) i (p, k, m) (later_met (Until a b) i (elementary_has core (Until a b) w.2 refl) g.1) in
                (r, append_right (pairs (place t) b) delayed r k', u, λ g'. absurd (n g'))
          ]
        ]
    pick (Release a b) w i h =
        let (q, k, m, _) = pick b w.1 i (release_now step (Holds truth step a) (Holds truth step b) i h) in
        let other : SomeMet (pairs (place t) a ++ later_pair (place t (Release a b)) ∷ []) i = elim (release_rest step (Holds truth step a) (Holds truth step b) i (decide a i) h) [
          | inl g ↦ (let (p, k', m', _) = pick a w.0 i g in met_left (pairs (place t) a) (later_pair (place t (Release a b)) ∷ []) i (p, k', m'))
          | inr g ↦ met_right (pairs (place t) a) (later_pair (place t (Release a b)) ∷ []) i (later_met (Release a b) i (elementary_has core (Release a b) w.2 refl) g)
        ] in
        let (r, n, u) = join_met (pairs (place t) b) (pairs (place t) a ++ later_pair (place t (Release a b)) ∷ []) i (q, k, m) other in
        (r, n, u, tt)

    -- what stands at a place and holds has a pair that is met and prompt
    pick_at : (k i : ℕ) → Holds truth step (row_of core k) i → Picked (row_of core k) i
    pick_at k i h = elim (row_parts core k) [
      | inl e ↦ absurd (subst (λ x. Holds truth step x i) e h)
      | inr w ↦ pick (row_of core k) w i h
    ]

    -- the pair is above a prompt one of this row
    abbrev pub HasPrompt : ℕ → Pair → ℕ → Type 0
    HasPrompt i r k = (q : Pair) × Has (pairs_at (table_of core) k) q × Within q r × IsPrompt (row_of core k) q i

    -- the rows of a set that hold have pairs that join
    pub pick_all : (e : RowSet) (i : ℕ) (ps : List Pair) (a : Pair) → Has ps a → IsMet a i → RowsHold e i → (r : Pair) × Has (joined (table_of core) ps e) r × IsMet r i × Within a r × ((k : ℕ) → Has e k → HasPrompt i r k)
    pick_all [] i ps a h m f = (a, h, m, within_refl a, λ k x. absurd x)
    pick_all (j ∷ e) i ps a h m f =
        let (q, k, n, g) = pick_at j i (f j (inl refl)) in
        let (r, k', m', w, c) = pick_all e i (join ps (pairs_at t j)) (united a q) (Has-join ps (pairs_at t j) a q (united a q) h k (met_joins a q i m n)) (met_united a q i m n) (λ x y. f x (inr y)) in (
          r,
          k',
          m',
          within_trans a (united a q) r (within_left a q) w,
          λ x. elim [
            | inl d ↦ subst (HasPrompt i r) (sym d) (q, k, within_trans q (united a q) r (within_right a q) w, g)
            | inr y ↦ c x y
          ],
        )
