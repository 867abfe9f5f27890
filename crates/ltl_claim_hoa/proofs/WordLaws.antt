-- The printed automaton accepts the words of the claim.
use Rattle.std.proofs.Common.{◌≡◌, ℕ, zero, suc, ◌+◌, ◌<◌, ◌≤◌, ◌↔◌, Bool, true, false, not, ◌&&◌, ◌||◌, ◌⊎◌, inl, inr, List, [], ◌∷◌, length, map, Some, None, nat_eq, refl, sym, ◌∙◌, ap, subst, arith, IsTrue}
use Rattle.std.specs.Prelude.{if◌then◌else◌, flat_map, nat_lt}
use Rattle.std.specs.List.{list_any, range_with_len}
use Rattle.std.proofs.lemmas.Bool.{cases_lt}
use Rattle.std.proofs.lemmas.Bool.Decides.{nat_tests}
use Rattle.std.proofs.lemmas.List.FromFn.{length-map-range_with_len, get_or-map-range_with_len}
use Rattle.ltl_spec.specs.Collections.Sets.{Has}
use Rattle.ltl_spec.specs.Collections.Lists.{place_of}
use Rattle.ltl_spec.specs.Semantics.Word.{Name, Lasso, next, is_true_at}
use Rattle.ltl_spec.specs.Formulas.Tokens.{same_name}
use Rattle.ltl_spec.specs.Transitions.Cubes.{Cube, allows}
use Rattle.ltl_spec.specs.Automata.Automaton.{Automaton, State, Edge, state_at, AcceptsFrom}
use Rattle.ltl_spec.specs.Hoa.HoaLabel.{label_cubes}
use Rattle.ltl_spec.specs.Claims.ClaimProgram.{Guard, Constant, Named, Not, And, Or, First, Test, Check, Both, Otherwise, Leaps, ClaimOption, Program}
use Rattle.ltl_spec.specs.Claims.ClaimMachine.{statement_at}
use Rattle.ltl_spec.specs.Claims.ClaimMeaning.{end, program_names, leads, accepts, guard_cubes, moves, move_edges, option_edges, statement_state, end_state, claim_automaton, ClaimAccepts}
use Rattle.ltl_spec.proofs.Collections.CaseLaws.{beq_true, left_true, right_true, nat_eq_same}
use Rattle.ltl_spec.proofs.Collections.ListLaws.{index_append, index_done}
use Rattle.ltl_spec.proofs.Collections.MemberLaws.{Has-map, map_cases, Has-flat_map, flat_map_cases, any_true}
use Rattle.ltl_spec.proofs.Formulas.NameLaws.{same_exact}
use Rattle.ltl_spec.proofs.Semantics.RunLaws.{accepts_from_by_run}
use Rattle.ltl_spec.proofs.Claims.ClaimRuns.{Follower, Follows, followed_run}
use Rattle.ltl_claim.specs.ClaimView.{same_guard, made_moves, statement_moves}
use Rattle.ltl_claim_hoa.specs.ClaimHoa.{MoveList, guard_label, ends_in, state_count}
use Rattle.ltl_claim_hoa.proofs.GuardLaws.{guard_value, cubes_to, cubes_from, label_to, label_from}

-- ---- moves as they are made

module _ (truth : ℕ → Bool) (names : List Name) where
  abbrev value : Guard → Bool
  value g = guard_value truth names g

  same_value : (g h : Guard) → same_guard g h ≡ true → value g ≡ value h
  same_value (Constant a) (Constant b) e = beq_true a b e
  same_value (Named m) (Named n) e = ap (λ k. truth (place_of same_name k names)) (same_exact m n e)
  same_value (Not g) (Not h) e = ap not (same_value g h e)
  same_value (And a b) (And c d) e = λ i. same_value a c (left_true _ _ e) i && same_value b d (right_true (same_guard a c) _ e) i
  same_value (Or a b) (Or c d) e = λ i. same_value a c (left_true _ _ e) i || same_value b d (right_true (same_guard a c) _ e) i
  same_value _ _ e = cc

  -- no guard holds together with its negation
  both_signs : (a b : Bool) → b ≡ not a → (a && b) ≡ true → ⊥
  both_signs true b e t = let f : b ≡ true = t in cc
  both_signs false b e t = cc

  module _ (P : Program) where
    -- a move of this list that may be taken, to this state
    abbrev pub Taken : MoveList → ℕ → Type 0
    Taken ms t = (m : Guard × ℕ) × Has ms m × (value m.0 ≡ true) × (m.1 ≡ t)

    both_made : (same : Bool) (g h : Guard) (t u : ℕ) → same_guard h (Not g) ≡ same → Taken ((And g h, t) ∷ (And g (Not h), end P) ∷ []) u
        → Taken (if same then (g, end P) ∷ [] else (And g h, t) ∷ (And g (Not h), end P) ∷ []) u
    both_made false g h t u e k = k
    both_made true g h t u e (m, inl q, v, w) =
        absurd (both_signs (value g) (value h) (same_value h (Not g) e) (subst (λ (x : Guard × ℕ). value x.0 ≡ true) q v))
    both_made true g h t u e (m, inr (inl q), v, w) =
        ((g, end P), inl refl, left_true (value g) _ (subst (λ (x : Guard × ℕ). value x.0 ≡ true) q v), ap (λ (x : Guard × ℕ). x.1) (sym q) ∙ w)
    both_made true g h t u e (m, inr (inr q), v, w) = absurd q

    both_back : (same : Bool) (g h : Guard) (t u : ℕ) → same_guard h (Not g) ≡ same
        → Taken (if same then (g, end P) ∷ [] else (And g h, t) ∷ (And g (Not h), end P) ∷ []) u → Taken ((And g h, t) ∷ (And g (Not h), end P) ∷ []) u
    both_back false g h t u e k = k
    both_back true g h t u e (m, inl q, v, w) =
        let holds : value g ≡ true = subst (λ (x : Guard × ℕ). value x.0 ≡ true) q v in
        let fails : value h ≡ false = same_value h (Not g) e ∙ ap not holds in
        ((And g (Not h), end P), inr (inl refl), (λ i. holds i && not (fails i)), ap (λ (x : Guard × ℕ). x.1) (sym q) ∙ w)
    both_back true g h t u e (m, inr q, v, w) = absurd q

    -- the same moves may be taken
    made_to : (i t u : ℕ) (first : First) → Taken (moves P i first t) u → Taken (made_moves P i first t) u
    made_to i t u (Both g h) k = both_made (same_guard h (Not g)) g h t u refl k
    made_to i t u (Test g) k = k
    made_to i t u (Check g) k = k
    made_to i t u Otherwise k = k
    made_to i t u (Leaps l) k = k

    made_from : (i t u : ℕ) (first : First) → Taken (made_moves P i first t) u → Taken (moves P i first t) u
    made_from i t u (Both g h) k = both_back (same_guard h (Not g)) g h t u refl k
    made_from i t u (Test g) k = k
    made_from i t u (Check g) k = k
    made_from i t u Otherwise k = k
    made_from i t u (Leaps l) k = k

-- ---- the automaton that is printed

module _ (P : Program) where
  -- whether a state accepts, and its moves
  abbrev pub row : ℕ → Bool × MoveList
  row k = if nat_lt k (end P) then (accepts P k, statement_moves P k) else (true, (Constant true, end P) ∷ [])

  abbrev pub shown_edges : Guard × ℕ → List Edge
  shown_edges m = map (λ c. record { cube = c; target = m.1; marks = [] }) (label_cubes (guard_label (program_names P) m.0))

  abbrev pub shown_state : ℕ → State
  shown_state k = record { accepting = (row k).0; edges = flat_map shown_edges (row k).1 }

  abbrev pub shown : Automaton
  shown = record { sets = 0; states = map shown_state (range_with_len 0 (state_count P)) }

  -- the start and the moves lead to states
  pub record IsInside : Type 0 where
    pub start : leads P P.start None ≤ end P
    pub moves : (i : ℕ) (m : Guard × ℕ) → i < end P → Has (statement_moves P i) m → m.1 ≤ end P

  pub row_below : (k : ℕ) → k < end P → row k ≡ (accepts P k, statement_moves P k)
  row_below k l =
      let below : nat_lt k (end P) ≡ true = grind (arith, nat_tests, l) in
      ap (λ b. if b then (accepts P k, statement_moves P k) else (true, (Constant true, end P) ∷ [])) below

  pub row_end : row (end P) ≡ (true, (Constant true, end P) ∷ [])
  row_end = ap (λ b. if b then (accepts P (end P), statement_moves P (end P)) else (true, (Constant true, end P) ∷ [])) (last (end P))
    where
      last : (n : ℕ) → nat_lt n n ≡ false
      last n = let l : n ≤ n = omega arith in grind (arith, nat_tests, l)

  -- which states there are
  count_cases : (b : Bool) (k : ℕ) → k < (if b then end P + 1 else end P) → (k < end P) ⊎ ((k ≡ end P) × (b ≡ true))
  count_cases false k l = inl l
  count_cases true k l = elim (cases_lt k (end P)) [ inl m ↦ inl m | inr m ↦ inr (omega (arith, l, m), refl) ]

  pub below_count : (k : ℕ) → k < state_count P → (k < end P) ⊎ ((k ≡ end P) × (ends_in P ≡ true))
  below_count k l = count_cases (ends_in P) k l

  counted : (b : Bool) (k : ℕ) → (k < end P) ⊎ ((k ≡ end P) × (b ≡ true)) → k < (if b then end P + 1 else end P)
  counted true k (inl l) = omega (arith, l)
  counted true k (inr (e, t)) = omega (arith, e)
  counted false k (inl l) = l
  counted false k (inr (e, t)) = cc

  -- where the start or a move leads to the end, that is a state
  if_start : leads P P.start None ≡ end P → ends_in P ≡ true
  if_start e = ap (λ b. b || list_any (λ i. list_any (λ m. nat_eq m.1 (end P)) (statement_moves P i)) (range_with_len 0 (end P))) (nat_eq_same (leads P P.start None) (end P) e)

  if_move : (i : ℕ) (m : Guard × ℕ) → i < end P → Has (statement_moves P i) m → m.1 ≡ end P → ends_in P ≡ true
  if_move i m l h e =
      ap (λ b. nat_eq (leads P P.start None) (end P) || b)
      (any_true (λ i. list_any (λ m. nat_eq m.1 (end P)) (statement_moves P i)) (range_with_len 0 (end P)) i (in_range 0 (end P) i (omega arith) (omega (arith, l)))
      (any_true (λ m. nat_eq m.1 (end P)) (statement_moves P i) m h (nat_eq_same m.1 (end P) e)))
      ∙ or_true (nat_eq (leads P P.start None) (end P))
    where
      or_true : (b : Bool) → (b || true) ≡ true
      or_true true = refl
      or_true false = refl

      in_range : (a n i : ℕ) → a ≤ i → i < a + n → Has (range_with_len a n) i
      in_range a zero i l m = absurd (omega (arith, l, m))
      in_range a (suc n) i l m = elim (cases_lt a i) [ inl k ↦ inr (in_range (a + 1) n i (omega (arith, k)) (omega (arith, m))) | inr k ↦ inl (omega (arith, l, k)) ]

  at_most : (n : ℕ) → n ≤ end P → (n ≡ end P → ends_in P ≡ true) → n < state_count P
  at_most n l f = counted (ends_in P) n (elim (cases_lt n (end P)) [ inl m ↦ inl m | inr m ↦ let e : n ≡ end P = omega (arith, l, m) in inr (e, f e) ])

  module _ (inside : IsInside) where
    pub start_inside : leads P P.start None < state_count P
    start_inside = at_most (leads P P.start None) inside.start if_start

    pub row_inside : (k : ℕ) (m : Guard × ℕ) → k < state_count P → Has (row k).1 m → m.1 < state_count P
    row_inside k m l h = elim (below_count k l) [
      | inl b ↦
          let h0 : Has (statement_moves P k) m = subst (λ (r : Bool × MoveList). Has r.1 m) (row_below k b) h in
          at_most m.1 (inside.moves k m b h0) (if_move k m b h0)
      | inr (e, t) ↦
          let h0 : Has ((Constant true, end P) ∷ []) m = subst (λ (r : Bool × MoveList). Has r.1 m) (ap row e ∙ row_end) h in
          elim h0 [ inl q ↦ counted (ends_in P) m.1 (inr (ap (λ (x : Guard × ℕ). x.1) q, t)) | inr q ↦ absurd q ]
    ]

    -- ---- states of both

    shown_at : (k : ℕ) → k < state_count P → state_at shown k ≡ shown_state k
    shown_at k l = get_or-map-range_with_len shown_state 0 (state_count P) k k (record { accepting = true; edges = [] }) l (omega arith)

    firsts : length (map (statement_state P) (range_with_len 0 (end P))) ≡ end P
    firsts = length-map-range_with_len (statement_state P) 0 (end P)

    claim_at : (k : ℕ) → k < end P → state_at (claim_automaton P) k ≡ statement_state P k
    claim_at k l =
        index_append (map (statement_state P) (range_with_len 0 (end P))) (end_state P ∷ []) k (record { accepting = true; edges = [] }) (subst (λ n. k < n) (sym firsts) l)
        ∙ get_or-map-range_with_len (statement_state P) 0 (end P) k k (record { accepting = true; edges = [] }) l (omega arith)

    claim_end : state_at (claim_automaton P) (end P) ≡ end_state P
    claim_end =
        ap (state_at (claim_automaton P)) (sym firsts) ∙ index_done (map (statement_state P) (range_with_len 0 (end P))) [] (end_state P) (record { accepting = true; edges = [] })

    abbrev IsSame : ℕ → ℕ → Type 0
    IsSame s t = (s ≡ t) × (s < state_count P)

    module _ (w : Lasso) where
      abbrev truth : ℕ → ℕ → Bool
      truth = is_true_at (program_names P) w

      -- an edge is that of a move
      edge_move : (f : Guard × ℕ → List Cube) (m : Guard × ℕ) (e : Edge) → Has (map (λ c. record { cube = c; target = m.1; marks = [] }) (f m)) e → (c : Cube) × Has (f m) c × (e ≡ record { cube = c; target = m.1; marks = [] })
      edge_move f m e h = map_cases (λ c. record { cube = c; target = m.1; marks = [] }) (f m) e h

      option_taken : (i k : ℕ) (o : ClaimOption) (e : Edge) → Has (option_edges P k o) e → IsTrue (allows (truth i) e.cube)
          → Taken (truth i) (program_names P) P (moves P k o.first (leads P o.next (Some k))) e.target
      option_taken i k o e h a =
          let (m, n, g) = flat_map_cases (move_edges P) (moves P k o.first (leads P o.next (Some k))) e h in
          let (c, p, q) = edge_move (λ m. guard_cubes (program_names P) true m.0) m e g in
          (m, n, cubes_to (truth i) (program_names P) true m.0 (c, p, subst (λ (x : Edge). allows (truth i) x.cube ≡ true) q a), ap (λ (x : Edge). x.target) (sym q))

      statement_taken : (i k : ℕ) (e : Edge) → Has (statement_state P k).edges e → IsTrue (allows (truth i) e.cube) → Taken (truth i) (program_names P) P (statement_moves P k) e.target
      statement_taken i k e h a =
          let (o, n, g) = flat_map_cases (option_edges P k) (statement_at P k).options e h in
          let (m, p, v, t) = made_to (truth i) (program_names P) P k (leads P o.next (Some k)) e.target o.first (option_taken i k o e g a) in
          (m, Has-flat_map (λ (o : ClaimOption). made_moves P k o.first (leads P o.next (Some k))) (statement_at P k).options o m n p, v, t)

      -- a move that may be taken has an edge
      shown_taken : (i t : ℕ) (ms : MoveList) → Taken (truth i) (program_names P) P ms t → (f : Edge) × Has (flat_map shown_edges ms) f × IsTrue (allows (truth i) f.cube) × (f.target ≡ t)
      shown_taken i t ms (m, h, v, q) =
          let (c, n, a) = label_from (truth i) (program_names P) m.0 v in (
            record { cube = c; target = m.1; marks = [] },
            Has-flat_map shown_edges ms m (record { cube = c; target = m.1; marks = [] }) h
                (Has-map (λ c. record { cube = c; target = m.1; marks = [] }) (label_cubes (guard_label (program_names P) m.0)) c n),
            a,
            q,
          )

      taken_shown : (i : ℕ) (ms : MoveList) (e : Edge) → Has (flat_map shown_edges ms) e → IsTrue (allows (truth i) e.cube) → Taken (truth i) (program_names P) P ms e.target
      taken_shown i ms e h a =
          let (m, n, g) = flat_map_cases shown_edges ms e h in
          let (c, p, q) = edge_move (λ m. label_cubes (guard_label (program_names P) m.0)) m e g in
          (m, n, label_to (truth i) (program_names P) m.0 (c, p, subst (λ (x : Edge). allows (truth i) x.cube ≡ true) q a), ap (λ (x : Edge). x.target) (sym q))

      statement_edge : (i k t : ℕ) → Taken (truth i) (program_names P) P (statement_moves P k) t → (f : Edge) × Has (statement_state P k).edges f × IsTrue (allows (truth i) f.cube) × (f.target ≡ t)
      statement_edge i k t (m, h, v, q) =
          let (o, n, g) = flat_map_cases (λ (o : ClaimOption). made_moves P k o.first (leads P o.next (Some k))) (statement_at P k).options m h in
          let (l, p, u, r) = made_from (truth i) (program_names P) P k (leads P o.next (Some k)) t o.first (m, g, v, q) in
          let (c, s, a) = cubes_from (truth i) (program_names P) true l.0 u in (
            record { cube = c; target = l.1; marks = [] },
            Has-flat_map (option_edges P k) (statement_at P k).options o (record { cube = c; target = l.1; marks = [] }) n
                (Has-flat_map (move_edges P) (moves P k o.first (leads P o.next (Some k))) l (record { cube = c; target = l.1; marks = [] }) p
                (Has-map (λ c. record { cube = c; target = l.1; marks = [] }) (guard_cubes (program_names P) true l.0) c s)),
            a,
            r,
          )

      -- the end
      end_taken : (i : ℕ) → Taken (truth i) (program_names P) P ((Constant true, end P) ∷ []) (end P)
      end_taken i = ((Constant true, end P), inl refl, refl, refl)

      claim_row : (i k : ℕ) (e : Edge) → k < state_count P → Has (state_at (claim_automaton P) k).edges e → IsTrue (allows (truth i) e.cube) → Taken (truth i) (program_names P) P (row k).1 e.target
      claim_row i k e l h a = elim (below_count k l) [
        | inl b ↦ subst (λ (r : Bool × MoveList). Taken (truth i) (program_names P) P r.1 e.target) (sym (row_below k b))
            (statement_taken i k e (subst (λ (s : State). Has s.edges e) (claim_at k b) h) a)
        | inr (q, t) ↦
            let h0 : Has (end_state P).edges e = subst (λ (s : State). Has s.edges e) (ap (state_at (claim_automaton P)) q ∙ claim_end) h in
            subst (λ (r : Bool × MoveList). Taken (truth i) (program_names P) P r.1 e.target) (sym (ap row q ∙ row_end))
            (elim h0 [ inl z ↦ subst (λ (x : Edge). Taken (truth i) (program_names P) P ((Constant true, end P) ∷ []) x.target) (sym z) (end_taken i) | inr z ↦ absurd z ])
      ]

      row_claim : (i k t : ℕ) → k < state_count P → Taken (truth i) (program_names P) P (row k).1 t
          → (f : Edge) × Has (state_at (claim_automaton P) k).edges f × IsTrue (allows (truth i) f.cube) × (f.target ≡ t)
      row_claim i k t l h = elim (below_count k l) [
        | inl b ↦
            let (f, m, a, q) = statement_edge i k t (subst (λ (r : Bool × MoveList). Taken (truth i) (program_names P) P r.1 t) (row_below k b) h) in
            (f, subst (λ (s : State). Has s.edges f) (sym (claim_at k b)) m, a, q)
        | inr (q, z) ↦
            let (m, n, v, r) = subst (λ (r : Bool × MoveList). Taken (truth i) (program_names P) P r.1 t) (ap row q ∙ row_end) h in
            let f : Edge = record { cube = []; target = end P; marks = [] } in (
              f,
              subst (λ (s : State). Has s.edges f) (sym (ap (state_at (claim_automaton P)) q ∙ claim_end)) (inl refl),
              refl,
              elim n [ inl y ↦ ap (λ (x : Guard × ℕ). x.1) (sym y) ∙ r | inr y ↦ absurd y ],
            )
      ]

      marks_same : (k : ℕ) → k < state_count P → (state_at (claim_automaton P) k).accepting ≡ (state_at shown k).accepting
      marks_same k l = elim (below_count k l) [
        | inl b ↦ ap (λ (s : State). s.accepting) (claim_at k b) ∙ ap (λ (r : Bool × MoveList). r.0) (sym (row_below k b)) ∙ ap (λ (s : State). s.accepting) (sym (shown_at k l))
        | inr (q, z) ↦
            ap (λ (s : State). s.accepting) (ap (state_at (claim_automaton P)) q ∙ claim_end) ∙ ap (λ (r : Bool × MoveList). r.0) (sym (ap row q ∙ row_end))
            ∙ ap (λ (s : State). s.accepting) (sym (shown_at k l))
      ]

      forth : Follows (claim_automaton P) shown truth truth IsSame
      forth = record { accepts = accepting; edges = edges }
        where
          accepting : (s t : ℕ) → IsSame s t → IsTrue (state_at (claim_automaton P) s).accepting → IsTrue (state_at shown t).accepting
          accepting s t (e, l) a = subst (λ k. IsTrue (state_at shown k).accepting) e (sym (marks_same s l) ∙ a)

          edges : (s t i : ℕ) (e : Edge) → IsSame s t → Has (state_at (claim_automaton P) s).edges e → IsTrue (allows (truth i) e.cube) → Follower (claim_automaton P) shown truth truth IsSame t i e
          edges s t i e (q, l) h a =
              let taken = claim_row i s e l h a in
              let (f, m, b, r) = shown_taken i e.target (row s).1 taken in (
                f,
                subst (λ k. Has (state_at shown k).edges f) q (subst (λ (x : State). Has x.edges f) (sym (shown_at s l)) m),
                b,
                (sym r, subst (λ k. k < state_count P) taken.3 (row_inside s taken.0 l taken.1)),
              )

      back : Follows shown (claim_automaton P) truth truth IsSame
      back = record { accepts = accepting; edges = edges }
        where
          accepting : (s t : ℕ) → IsSame s t → IsTrue (state_at shown s).accepting → IsTrue (state_at (claim_automaton P) t).accepting
          accepting s t (e, l) a = subst (λ k. IsTrue (state_at (claim_automaton P) k).accepting) e (marks_same s l ∙ a)

          edges : (s t i : ℕ) (e : Edge) → IsSame s t → Has (state_at shown s).edges e → IsTrue (allows (truth i) e.cube) → Follower shown (claim_automaton P) truth truth IsSame t i e
          edges s t i e (q, l) h a =
              let taken = taken_shown i (row s).1 e (subst (λ (x : State). Has x.edges e) (shown_at s l) h) a in
              let (f, m, b, r) = row_claim i s e.target l taken in (
                f,
                subst (λ k. Has (state_at (claim_automaton P) k).edges f) q m,
                b,
                (sym r, subst (λ k. k < state_count P) taken.3 (row_inside s taken.0 l taken.1)),
              )

      abbrev begin : ℕ
      begin = leads P P.start None

      -- the same words are accepted
      pub shown_accepts : 0 < length w.cycle → AcceptsFrom begin (program_names P) shown w ↔ ClaimAccepts P w
      shown_accepts cycles = (
        (λ a. (accepts_from_by_run begin (program_names P) (claim_automaton P) w cycles).1
            (followed_run shown (claim_automaton P) truth truth IsSame (next w) begin begin back (refl, start_inside) ((accepts_from_by_run begin (program_names P) shown w cycles).0 a) refl)),
        λ a. (accepts_from_by_run begin (program_names P) shown w cycles).1
            (followed_run (claim_automaton P) shown truth truth IsSame (next w) begin begin forth (refl, start_inside) ((accepts_from_by_run begin (program_names P) (claim_automaton P) w cycles).0 a) refl),
      )
