-- Accepting states as an acceptance set: the edges that leave them are set 0, and the same words are accepted.
use Rattle.std.proofs.Common.{◌≡◌, ◌≢◌, ℕ, Bool, true, false, cond, ◌⊎◌, ◌↔◌, inl, inr, List, [], ◌∷◌, map, refl, sym, ◌∙◌, ap, subst, arith}
use Rattle.std.specs.Prelude.{IsTrue}
use Rattle.ltl_spec.specs.Collections.Sets.{Has}
use Rattle.ltl_spec.specs.Transitions.Cubes.{allows}
use Rattle.ltl_spec.specs.Automata.Automaton.{Automaton, State, Edge, state_at, IsWalk, IsAcceptingCycle, AcceptedFrom}
use Rattle.ltl_spec.proofs.Automata.ListedStates.{mapped_at}
use Rattle.ltl_spec.proofs.Collections.MemberLaws.{Has-map, map_cases}

-- the edge, in set 0 where it leaves an accepting state
abbrev pub leaving_edge : Bool → Edge → Edge
leaving_edge accepting e = record { cube = e.cube; target = e.target; marks = cond accepting (0 ∷ []) [] }

abbrev pub leaving_state : State → State
leaving_state s = record { accepting = true; edges = map (leaving_edge s.accepting) s.edges }

-- the automaton with that set in place of its accepting states
abbrev pub leaving : Automaton → Automaton
leaving B = record { sets = 1; states = map leaving_state B.states }

module _ (B : Automaton) (truth : ℕ → ℕ → Bool) (step : ℕ → ℕ) where
  at : (s : ℕ) → state_at (leaving B) s ≡ leaving_state (state_at B s)
  at s = mapped_at leaving_state refl B.states s

  -- an edge that enters an accepting state, and one in set 0
  abbrev Enters : List Edge → Type 0
  Enters es = (e : Edge) × Has es e × IsTrue (state_at B e.target).accepting

  abbrev Leaves : List Edge → Type 0
  Leaves es = (e : Edge) × Has es e × Has e.marks 0

  enters_later : (e : Edge) (es : List Edge) → Enters es → Enters (e ∷ es)
  enters_later e es (f, m, a) = (f, inr m, a)

  leaves_later : (e : Edge) (es : List Edge) → Leaves es → Leaves (e ∷ es)
  leaves_later e es (f, m, z) = (f, inr m, z)

  -- the edges of a walk from a state, with that set
  abbrev along : ℕ → List Edge → List Edge
  along s [] = []
  along s (e ∷ es) = leaving_edge (state_at B s).accepting e ∷ along e.target es

  walk_along : (es : List Edge) (s i t j : ℕ) → IsWalk B truth step s i es t j → IsWalk (leaving B) truth step s i (along s es) t j
  walk_along [] s i t j w = w
  walk_along (e ∷ es) s i t j w = (
    subst (λ (v : State). Has v.edges (leaving_edge (state_at B s).accepting e)) (sym (at s)) (Has-map (leaving_edge (state_at B s).accepting) (state_at B s).edges e w.0),
    w.1,
    walk_along es e.target (step i) t j w.2,
  )

  -- and each walk with that set is one of these
  walk_back : (es : List Edge) (s i t j : ℕ) → IsWalk (leaving B) truth step s i es t j → (fs : List Edge) × IsWalk B truth step s i fs t j × (along s fs ≡ es)
  walk_back [] s i t j w = ([], w, refl)
  walk_back (e ∷ es) s i t j w =
      let acc = (state_at B s).accepting in
      let (f, k, q) = map_cases (leaving_edge acc) (state_at B s).edges e (subst (λ (v : State). Has v.edges e) (at s) w.0) in
      let (fs, v, p) = walk_back es e.target (step i) t j w.2 in
      let same : e.target ≡ f.target = ap (λ (x : Edge). x.target) q in
      let rest : along f.target fs ≡ es = subst (λ u. along u fs ≡ es) same p in (
        f ∷ fs,
        (k, subst (λ (x : Edge). IsTrue (allows (truth i) x.cube)) q w.1, subst (λ u. IsWalk B truth step u (step i) fs t j) same v),
        λ n. sym q n ∷ rest n,
      )

  -- what leaves an accepting state is in the set, and nothing else
  leaves_first : (e : Edge) (accepting : Bool) → accepting ≡ true → Has (leaving_edge accepting e).marks 0
  leaves_first e accepting a = subst (λ b. Has (leaving_edge b e).marks 0) (sym a) (inl refl)

  left_only : (e : Edge) (accepting : Bool) → Has (leaving_edge accepting e).marks 0 → accepting ≡ true
  left_only e true h = refl
  left_only e false h = absurd h

  -- behind an edge that enters an accepting state one leaves it, or the walk ends there
  entered : (es : List Edge) (s i t j : ℕ) → IsWalk B truth step s i es t j → Enters es → IsTrue (state_at B t).accepting ⊎ Leaves (along s es)
  entered [] s i t j w (x, m, a) = absurd m
  entered (e ∷ []) s i t j w (x, inr m, a) = absurd m
  entered (e ∷ []) s i t j w (x, inl q, a) =
      inl (subst (λ u. IsTrue (state_at B u).accepting) (ap (λ (y : Edge). y.target) q ∙ w.2.0) a)
  entered (e ∷ f ∷ es) s i t j w (x, inl q, a) =
      let here : IsTrue (state_at B e.target).accepting = subst (λ (y : Edge). IsTrue (state_at B y.target).accepting) q a in
      inr (leaving_edge (state_at B e.target).accepting f, inr (inl refl), leaves_first f (state_at B e.target).accepting here)
  entered (e ∷ f ∷ es) s i t j w (x, inr m, a) = elim (entered (f ∷ es) e.target (step i) t j w.2 (x, m, a)) [
    | inl b ↦ inl b
    | inr b ↦ inr (leaves_later (leaving_edge (state_at B s).accepting e) (along e.target (f ∷ es)) b)
  ]

  -- before an edge that leaves an accepting state one enters it, or the walk begins there
  left : (es : List Edge) (s i t j : ℕ) → IsWalk B truth step s i es t j → Leaves (along s es) → IsTrue (state_at B s).accepting ⊎ Enters es
  left [] s i t j w (x, m, z) = absurd m
  left (e ∷ es) s i t j w (x, inl q, z) = inl (left_only e (state_at B s).accepting (subst (λ (y : Edge). Has y.marks 0) q z))
  left (e ∷ es) s i t j w (x, inr m, z) = elim (left es e.target (step i) t j w.2 (x, m, z)) [
    | inl a ↦ inr (e, inl refl, a)
    | inr b ↦ inr (enters_later e es b)
  ]

  -- the first edge leaves the first state, and the last one enters the last
  first_leaves : (es : List Edge) (s : ℕ) → es ≢ [] → IsTrue (state_at B s).accepting → Leaves (along s es)
  first_leaves [] s some a = absurd (some refl)
  first_leaves (e ∷ es) s some a = (leaving_edge (state_at B s).accepting e, inl refl, leaves_first e (state_at B s).accepting a)

  last_enters : (es : List Edge) (s i t j : ℕ) → es ≢ [] → IsWalk B truth step s i es t j → IsTrue (state_at B t).accepting → Enters es
  last_enters [] s i t j some w a = absurd (some refl)
  last_enters (e ∷ []) s i t j some w a = (e, inl refl, subst (λ u. IsTrue (state_at B u).accepting) (sym w.2.0) a)
  last_enters (e ∷ f ∷ es) s i t j some w a = enters_later e (f ∷ es) (last_enters (f ∷ es) e.target (step i) t j (λ z. cc) w.2 a)

  some_along : (es : List Edge) (s : ℕ) → es ≢ [] → along s es ≢ []
  some_along [] s some z = some refl
  some_along (e ∷ es) s some z = cc

  one_edge : (es : List Edge) → es ≢ [] → (e : Edge) × Has es e
  one_edge [] some = absurd (some refl)
  one_edge (e ∷ es) some = (e, inl refl)

  cycle_along : B.sets ≡ 0 → (s i : ℕ) (cycle : List Edge) → IsAcceptingCycle B truth step s i cycle → IsAcceptingCycle (leaving B) truth step s i (along s cycle)
  cycle_along none s i cycle h =
      let (e, m) = one_edge (along s cycle) (some_along cycle s h.moves) in
      let leaves : Leaves (along s cycle) = elim (entered cycle s i s i h.closes h.accepts) [ inl a ↦ first_leaves cycle s h.moves a | inr b ↦ b ] in
      record {
        closes = walk_along cycle s i s i h.closes;
        moves = some_along cycle s h.moves;
        accepts = (e, m, ap (λ (v : State). v.accepting) (at e.target));
        marks = λ k l. let z : 0 ≡ k = omega arith in subst (λ n. (x : Edge) × Has (along s cycle) x × Has x.marks n) z leaves;
      }

  cycle_back : B.sets ≡ 0 → (s i : ℕ) (cycle : List Edge) → IsAcceptingCycle (leaving B) truth step s i cycle → (fs : List Edge) × IsAcceptingCycle B truth step s i fs
  cycle_back none s i cycle h =
      let (fs, v, p) = walk_back cycle s i s i h.closes in
      let some : fs ≢ [] = λ z. h.moves (sym p ∙ ap (along s) z) in
      let leaves : Leaves (along s fs) = subst Leaves (sym p) (h.marks 0 (omega arith)) in (
        fs,
        record {
          closes = v;
          moves = some;
          accepts = elim (left fs s i s i v leaves) [ inl a ↦ last_enters fs s i s i some v a | inr b ↦ b ];
          marks = λ k l. absurd (omega (arith, none, l));
        },
      )

  -- The same words are accepted
  pub leaving_accepts : B.sets ≡ 0 → (start : ℕ) → AcceptedFrom start (leaving B) truth step ↔ AcceptedFrom start B truth step
  leaving_accepts none start = (
    (λ h.
        let (stem, arrives, p) = walk_back h.stem start 0 h.state h.position h.arrives in
        let (cycle, cycles) = cycle_back none h.state h.position h.cycle h.cycles in
        record { state = h.state; position = h.position; stem = stem; cycle = cycle; arrives = arrives; cycles = cycles }),
    λ h. record {
      state = h.state;
      position = h.position;
      stem = along start h.stem;
      cycle = along h.state h.cycle;
      arrives = walk_along h.stem start 0 h.state h.position h.arrives;
      cycles = cycle_along none h.state h.position h.cycle h.cycles;
    },
  )
