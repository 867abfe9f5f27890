-- An automaton whose states accept accepts the words of the one with an acceptance set that it is made of.
use Rattle.std.proofs.Common.{◌≡◌, ◌≢◌, ℕ, zero, suc, ◌<◌, ◌≤◌, ◌⊎◌, inl, inr, ◌↔◌, Bool, true, false, List, [], ◌∷◌, map, length, refl, sym, ◌∙◌, ap, ap₂, subst, arith, rules, ◌+◌, ◌++◌, Some}
use Rattle.std.specs.Prelude.{IsTrue, slice_get, slice_index_or, sum_by, All}
use Rattle.std.specs.Bool.{Decides}
use Rattle.std.proofs.lemmas.Bool.{cases_lt}
use Rattle.std.proofs.lemmas.List.{get_or_past, length-append}
use Rattle.std.proofs.lemmas.List.Elements.{All-nil}
use Rattle.std.proofs.lemmas.List.Sums.{sum_by-cons}
use Rattle.std.proofs.lemmas.Option.{get_or_from_slice_get, slice_get_within}
use Rattle.std.specs.Ordering.{nat_cmp}
use Rattle.ltl_spec.specs.Collections.Sets.{Has, IsRising, has}
use Rattle.ltl_spec.specs.Semantics.Word.{Name, Lasso, next, is_true_at}
use Rattle.ltl_spec.specs.Transitions.Cubes.{Cube, allows}
use Rattle.ltl_spec.specs.Automata.Automaton.{Automaton, AcceptedFrom, Accepts, Edge, IsAcceptingCycle, IsWalk, State, state_at}
use Rattle.ltl_spec.specs.Checking.Bounds.{HasNamesBelow}
use Rattle.ltl_spec.specs.Construction.ImpliedEdges.{IsSetEdge}
use Rattle.ltl_spec.specs.Construction.Merging.{merged_automaton}
use Rattle.ltl_spec.specs.Construction.Renumbered.{renumbered_automaton}
use Rattle.ltl_spec.specs.Tools.Limits.{stated_limits}
use Rattle.ltl_spec.proofs.Automata.ListedStates.{any_state, has_edge_below, no_state}
use Rattle.ltl_spec.proofs.Collections.CaseLaws.{false_is_true}
use Rattle.ltl_spec.proofs.Collections.ListLaws.{All-at_has, All-from_has, Contains-from_has, index_append, index_done}
use Rattle.ltl_spec.proofs.Collections.MemberLaws.{Has-map, map_cases, map_length}
use Rattle.ltl_spec.proofs.Collections.Orders.{nat_linear}
use Rattle.ltl_spec.proofs.Collections.SetLaws.{has_Decides}
use Rattle.ltl_spec.proofs.Construction.MergingRuns.{merged_closed, merged_run, run_of_merged}
use Rattle.ltl_spec.proofs.Construction.QuotientRuns.{HasSetEdges}
use Rattle.ltl_spec.proofs.Construction.RenumberedRuns.{renumbered_run, run_of_renumbered}
use Rattle.ltl_spec.proofs.Semantics.RunLaws.{accepts_by_run}
use Rattle.ltl_spec.proofs.Semantics.Runs.{IsClosed}
use Rattle.ltl_automaton.specs.Labels.{AreCoded, AreTables, IsCoded, Tables, coded_edge, cube_in, labelled, labelled_edge, marks_in}
use Rattle.ltl_automaton.proofs.EdgeLaws.{map_pushed}
use Rattle.ltl_automaton.specs.CodedEdges.{coded_edge_of}
use Rattle.ltl_automaton.specs.SharedView.{with_state}
use Rattle.ltl_automaton.specs.declared.coded_edge.CodedEdge as coded
use Rattle.ltl_automaton.proofs.TableLaws.{labelled_length, state_at_labelled}
use Rattle.ltl_models.specs.BaView.{IsPlain}
use Rattle.ltl_models.specs.GbaView as gba
use Rattle.ltl_models.proofs.Within.{edges_within}
use Rattle.ltl_reduce.proofs.CheckLaws.{AllTo, below_next, to_all, to_next}
use Rattle.ltl_reduce.specs.StateBased.{Agrees, EdgesAgree, IsBasedBy, IsInAll, IsStateBased, bare_coded, bare_edge, level_in}

none_of_none : (es : List Edge) → map bare_edge es ≡ [] → es ≡ []
none_of_none [] q = refl
none_of_none (e ∷ es) q = let n = map_length bare_edge (e ∷ es) in let m : length (map bare_edge (e ∷ es)) ≡ 0 = ap length q in absurd (omega arith)

filled : (e : Edge) (es : List Edge) → e ∷ es ≢ []
filled e es q = let n : length (e ∷ es) ≡ 0 = ap length q in absurd (omega arith)

module _ (G : Automaton) (level : ℕ → ℕ) (B : Automaton) (based : IsBasedBy G level B) (truth : ℕ → ℕ → Bool) (step : ℕ → ℕ) where
  abbrev WalkG : ℕ → ℕ → List Edge → ℕ → ℕ → Type 0
  WalkG = IsWalk G truth step

  abbrev WalkB : ℕ → ℕ → List Edge → ℕ → ℕ → Type 0
  WalkB = IsWalk B truth step

  walk_on : (es : List Edge) (s i t j : ℕ) → WalkG s i es t j → WalkB s i (map bare_edge es) t j
  walk_on [] s i t j w = w
  walk_on (e ∷ es) s i t j (h, a, w) =
      (subst (λ xs. Has xs (bare_edge e)) (sym (based.edges s)) (Has-map bare_edge (state_at G s).edges e h), a, walk_on es e.target (step i) t j w)

  walk_back : (es : List Edge) (s i t j : ℕ) → WalkB s i es t j → (fs : List Edge) × WalkG s i fs t j × (es ≡ map bare_edge fs)
  walk_back [] s i t j w = ([], w, refl)
  walk_back (e ∷ es) s i t j (h, a, w) =
      let (f, m, q) = map_cases bare_edge (state_at G s).edges e (subst (λ xs. Has xs e) (based.edges s) h) in
      let (fs, v, p) = walk_back es e.target (step i) t j w in (
        f ∷ fs,
        (
          m,
          subst (λ (c : Cube). IsTrue (allows (truth i) c)) (ap (λ (x : Edge). x.cube) q) a,
          subst (λ n. WalkG n (step i) fs t j) (ap (λ (x : Edge). x.target) q) v,
        ),
        ap₂ (λ (x : Edge) xs. x ∷ xs) q p,
      )

  -- levels fall along a walk
  falls : (es : List Edge) (s i t j : ℕ) → WalkG s i es t j → level t ≤ level s
  falls [] s i t j (p, q) = let same = ap level p in omega arith
  falls (e ∷ es) s i t j (h, a, w) = let x = (based.agree s e h).falls in let y = falls es e.target (step i) t j w in omega arith

  -- where an edge of a walk that ends on its level comes from: the first state, or the target of another edge
  before : (es : List Edge) (s i t j : ℕ) → WalkG s i es t j → level s ≤ level t → (e : Edge) → Has es e
      → (u : ℕ) × Has (state_at G u).edges e × (level e.target ≡ level u) × ((u ≡ s) ⊎ ((d : Edge) × Has es d × (d.target ≡ u)))
  before [] s i t j w l e h = absurd h
  before (x ∷ es) s i t j (h, a, w) l e (inl q) =
      let f = (based.agree s x h).falls in
      let g = falls es x.target (step i) t j w in
      let same : level e.target ≡ level x.target = ap (λ (y : Edge). level y.target) q in
      (s, subst (λ y. Has (state_at G s).edges y) (sym q) h, omega arith, inl refl)
  before (x ∷ es) s i t j (h, a, w) l e (inr m) =
      let f = (based.agree s x h).falls in
      let (u, there, k, place) = before es x.target (step i) t j w (omega arith) e m in
      (u, there, k, elim place [ inl p ↦ inr (x, inl refl, sym p) | inr y ↦ inr (y.0, inr y.1, y.2) ])

  last : (es : List Edge) (s i t j : ℕ) → es ≢ [] → WalkG s i es t j → (d : Edge) × Has es d × (d.target ≡ t)
  last [] s i t j n w = absurd (n refl)
  last (x ∷ []) s i t j n (h, a, w) = (x, inl refl, w.0)
  last (x ∷ y ∷ es) s i t j n (h, a, w) = let (d, k, p) = last (y ∷ es) x.target (step i) t j (filled y es) w in (d, inr k, p)

  first : (es : List Edge) (s i t j : ℕ) → es ≢ [] → WalkG s i es t j → level s ≤ level t → (f : Edge) × Has es f × Has (state_at G s).edges f × (level f.target ≡ level s)
  first [] s i t j n w l = absurd (n refl)
  first (x ∷ es) s i t j n (h, a, w) l = let f = (based.agree s x h).falls in let g = falls es x.target (step i) t j w in (x, inl refl, h, omega arith)

  -- what follows an edge of a walk: its end, or another edge
  after : (es : List Edge) (s i t j : ℕ) → WalkG s i es t j → level s ≤ level t → (e : Edge) → Has es e
      → (e.target ≡ t) ⊎ ((f : Edge) × Has es f × Has (state_at G e.target).edges f × (level f.target ≡ level e.target))
  after [] s i t j w l e h = absurd h
  after (x ∷ []) s i t j (h, a, w) l e (inl q) = inl (ap (λ (y : Edge). y.target) q ∙ w.0)
  after (x ∷ y ∷ es) s i t j (h, a, w) l e (inl q) =
      let f = (based.agree s x h).falls in
      let (z, k, there, same) = first (y ∷ es) x.target (step i) t j (filled y es) w (omega arith) in
      let moved = sym (ap (λ (d : Edge). d.target) q) in
      inr (z, inr k, subst (λ n. Has (state_at G n).edges z) moved there, same ∙ ap level moved)
  after (x ∷ es) s i t j (h, a, w) l e (inr m) =
      let f = (based.agree s x h).falls in
      elim (after es x.target (step i) t j w (omega arith) e m) [ inl p ↦ inl p | inr y ↦ inr (y.0, inr y.1, y.2, y.3) ]

  -- some edge of an accepting cycle is in all sets
  in_all : (n : ℕ) → G.sets ≡ n → (s i : ℕ) (es : List Edge) → IsAcceptingCycle G truth step s i es → (e : Edge) × Has es e × IsInAll G.sets e
  in_all zero q s i es c = let (e, h, t) = c.accepts in (e, h, λ k l. absurd (omega arith))
  in_all (suc n) q s i es c =
      let few = based.few in
      let (e, h, m) = c.marks 0 (omega arith) in
      (e, h, λ k l. let z : 0 ≡ k = omega arith in subst (λ x. Has e.marks x) z m)

  cycle_on : (s i : ℕ) (es : List Edge) → IsAcceptingCycle G truth step s i es → IsAcceptingCycle B truth step s i (map bare_edge es)
  cycle_on s i es c = record {
    closes = walk_on es s i s i c.closes;
    moves = λ q. c.moves (none_of_none es q);
    accepts =
        let (e, h, all) = in_all G.sets refl s i es c in
        let (u, there, l, place) = before es s i s i c.closes (omega arith) e h in
        let accepting : (state_at B u).accepting ≡ true = ((based.agree u e there).same l).0 all in
        let (d, k, p) : (d : Edge) × Has es d × (d.target ≡ u) = elim place [ inl q ↦ (let (d, k, p) = last es s i s i c.moves c.closes in (d, k, p ∙ sym q)) | inr y ↦ y ] in
        (bare_edge d, Has-map bare_edge es d k, subst (λ n. (state_at B n).accepting ≡ true) (sym p) accepting);
    marks = λ k l. let none = based.none in absurd (omega arith);
  }

  cycle_back : ((s : ℕ) → (state_at G s).accepting ≡ true) → (s i : ℕ) (es : List Edge) → IsAcceptingCycle B truth step s i es → (fs : List Edge) × IsAcceptingCycle G truth step s i fs
  cycle_back every s i es c =
      let (fs, w, q) = walk_back es s i s i c.closes in
      let moves : fs ≢ [] = λ n. c.moves (q ∙ ap (map bare_edge) n) in
      let (d, h, t) = c.accepts in
      let (e, m, r) = map_cases bare_edge fs d (subst (λ xs. Has xs d) q h) in
      let accepting : (state_at B e.target).accepting ≡ true = subst (λ n. (state_at B n).accepting ≡ true) (ap (λ (x : Edge). x.target) r) t in
      let (f, k, there, l) : (f : Edge) × Has fs f × Has (state_at G e.target).edges f × (level f.target ≡ level e.target) = elim (after fs s i s i w (omega arith) e m) [
        | inl p ↦
            let (f, k, there, l) = first fs s i s i moves w (omega arith) in
            (f, k, subst (λ n. Has (state_at G n).edges f) (sym p) there, l ∙ ap level (sym p))
        | inr y ↦ y
      ] in
      let all = ((based.agree e.target f there).same l).1 accepting in
      (fs, record { closes = w; moves = moves; accepts = (f, k, every f.target); marks = λ n b. (f, k, all n b) })

  pub accepted_state_based : ((s : ℕ) → (state_at G s).accepting ≡ true) → AcceptedFrom 0 G truth step ↔ AcceptedFrom 0 B truth step
  accepted_state_based every = (
    (λ a. record {
      state = a.state;
      position = a.position;
      stem = map bare_edge a.stem;
      cycle = map bare_edge a.cycle;
      arrives = walk_on a.stem 0 0 a.state a.position a.arrives;
      cycles = cycle_on a.state a.position a.cycle a.cycles;
    }),
    λ a.
        let (stem, w, _) = walk_back a.stem 0 0 a.state a.position a.arrives in
        let (cycle, c) = cycle_back every a.state a.position a.cycle a.cycles in
        record { state = a.state; position = a.position; stem = stem; cycle = cycle; arrives = w; cycles = c },
  )

-- ---- what it keeps, and that it may be merged and renumbered

module _ (G : Automaton) (level : ℕ → ℕ) (B : Automaton) (based : IsBasedBy G level B) where
  edge_behind : (s : ℕ) (e : Edge) → Has (state_at B s).edges e → (f : Edge) × Has (state_at G s).edges f × (e ≡ bare_edge f)
  edge_behind s e h = map_cases bare_edge (state_at G s).edges e (subst (λ xs. Has xs e) (based.edges s) h)

  pub state_based_closed : IsClosed G → IsClosed B
  state_based_closed c = record {
    begins = subst (λ n. 0 < n) (sym based.long) c.begins;
    inside = λ s e h. let (f, k, q) = edge_behind s e h in subst (λ n. e.target < n) (sym based.long) (subst (λ n. n < length G.states) (sym (ap (λ (x : Edge). x.target) q)) (c.inside s f k));
  }

  pub state_based_sets : HasSetEdges G → HasSetEdges B
  state_based_sets sets s e h = let (f, k, q) = edge_behind s e h in subst IsSetEdge (sym q) (record { cube = (sets s f k).cube; marks = nothing })
    where
      nothing : IsRising nat_cmp []
      nothing = search rules

  pub state_based_below : (n : ℕ) → HasNamesBelow n G → HasNamesBelow n B
  state_based_below n low s e h l m = let (f, k, q) = edge_behind s e h in low s f k l (subst (λ (x : Edge). Has x.cube l) q m)

module _ (B : Automaton) (closed : IsClosed B) (sets : HasSetEdges B) where
  abbrev M : Automaton
  M = merged_automaton false false B

  pub accepts_merged : (names : List Name) (w : Lasso) → 0 < length w.cycle → Accepts names B w ↔ Accepts names (renumbered_automaton M) w
  accepts_merged names w l =
      let (to, from) = accepts_by_run names B w l in
      let (on, back) = accepts_by_run names (renumbered_automaton M) w l in
      let holds = is_true_at names w in
      let small = merged_closed B false false closed in (
        (λ h. back (renumbered_run M small holds (next w) (merged_run B false false holds (next w) closed sets (to h)))),
        λ h. from (run_of_merged B false false holds (next w) closed (run_of_renumbered M small holds (next w) (on h))),
      )

-- ---- it has what the types hold

all_at : (P : State → Type 0) (xs : List State) → ((i : ℕ) → i < length xs → P (slice_index_or xs i no_state)) → All P xs
all_at P xs h = All-from_has P xs (λ u k. let (i, l, q) = Contains-from_has xs u k in subst P (sym (any_state xs i u l) ∙ q) (h i l))

sums_same : (xs ys : List State) → length xs ≡ length ys → ((i : ℕ) → length (slice_index_or xs i no_state).edges ≡ length (slice_index_or ys i no_state).edges) → sum_by (λ (s : State). length s.edges) xs ≡ sum_by (λ (s : State). length s.edges) ys
sums_same [] [] l h = refl
sums_same [] (y ∷ ys) l h = absurd (omega arith)
sums_same (x ∷ xs) [] l h = absurd (omega arith)
sums_same (x ∷ xs) (y ∷ ys) l h =
    let a = sum_by-cons (λ (s : State). length s.edges) x xs in
    let b = sum_by-cons (λ (s : State). length s.edges) y ys in
    let c = sums_same xs ys (omega arith) (λ i. h (suc i)) in
    let d : length x.edges ≡ length y.edges = h 0 in
    omega arith

module _ (G : Automaton) (level : ℕ → ℕ) (B : Automaton) (based : IsBasedBy G level B) where
  pub state_based_plain : IsPlain B
  state_based_plain = all_at (λ (s : State). All (λ (e : Edge). e.marks ≡ []) s.edges) B.states (λ i l. All-from_has (λ (e : Edge). e.marks ≡ []) (state_at B i).edges (λ e h.
      let (f, k, q) = edge_behind G level B based i e h in
      ap (λ (x : Edge). x.marks) q))

  pub state_based_gba : gba.IsGba G → gba.IsGba B
  state_based_gba g = record {
    some = subst (λ n. 0 < n) (sym based.long) g.some;
    few_states = subst (λ n. n ≤ stated_limits.states) (sym based.long) g.few_states;
    few_edges =
        let a : sum_by (λ (s : State). length s.edges) B.states ≡ sum_by (λ (s : State). length s.edges) G.states = sums_same B.states G.states based.long (λ i. ap length (based.edges i) ∙ map_length bare_edge (state_at G i).edges) in
        subst (λ n. n ≤ stated_limits.edges) (sym a) g.few_edges;
    few_sets = subst (λ n. n ≤ stated_limits.elementary_rows) (sym based.none) (omega arith);
    within = all_at (λ (s : State). All (gba.IsEdgeWithin (length B.states) B.sets) s.edges) B.states (λ i l. All-from_has (gba.IsEdgeWithin (length B.states) B.sets) (state_at B i).edges (λ e h.
        let (f, k, q) = edge_behind G level B based i e h in
        let w = All-at_has (gba.IsEdgeWithin (length G.states) G.sets) (state_at G i).edges (edges_within G (gba.IsEdgeWithin (length G.states) G.sets) i g.within) f k in
        subst (gba.IsEdgeWithin (length B.states) B.sets) (sym q) (record {
          target = subst (λ n. f.target < n) (sym based.long) w.target;
          marks = All-nil (λ k. k < B.sets);
          rising = record { cube = w.rising.cube; marks = nothing };
          consistent = w.consistent;
        })));
  }
    where
      nothing : IsRising nat_cmp []
      nothing = search rules

-- ---- the tests of the code, by their results

pub in_all_none : (sets : ℕ) (e : Edge) → sets ≡ 0 → Decides true (IsInAll sets e)
in_all_none sets e z = ((λ t k l. absurd (omega arith)), λ h. refl)

pub in_all_one : (sets : ℕ) (has_it : Bool) (e : Edge) → sets ≤ 1 → 0 < sets → has_it ≡ has nat_cmp 0 e.marks → Decides has_it (IsInAll sets e)
in_all_one sets has_it e few some q = (
  (λ t k l. let z : 0 ≡ k = omega arith in subst (λ n. Has e.marks n) z ((has_Decides nat_linear 0 e.marks).0 (sym q ∙ t))),
  λ h. q ∙ (has_Decides nat_linear 0 e.marks).1 (h 0 some),
)

pub agrees_lower : (sets l t s : ℕ) (levels : List ℕ) (accepting : Bool) (e : Edge) → l ≡ level_in levels s → t ≡ level_in levels e.target → t < l → Agrees sets (level_in levels) s accepting e
agrees_lower sets l t s levels accepting e p q h = record { falls = omega arith; same = λ k. absurd (omega arith) }

pub agrees_in : (sets l t s : ℕ) (levels : List ℕ) (accepting found : Bool) (e : Edge) → l ≡ level_in levels s → t ≡ level_in levels e.target → t ≤ l → Decides found (IsInAll sets e) → found ≡ true → accepting ≡ true
    → Agrees sets (level_in levels) s accepting e
agrees_in sets l t s levels accepting found e p q h (to, from) f a = record { falls = omega arith; same = λ k. ((λ _. a), λ _. to f) }

pub agrees_out : (sets l t s : ℕ) (levels : List ℕ) (accepting found : Bool) (e : Edge) → l ≡ level_in levels s → t ≡ level_in levels e.target → t ≤ l → Decides found (IsInAll sets e) → found ≡ false → accepting ≡ false
    → Agrees sets (level_in levels) s accepting e
agrees_out sets l t s levels accepting found e p q h (to, from) f a = record {
  falls = omega arith;
  same = λ k. ((λ i. false_is_true (sym f ∙ from i)), λ b. false_is_true (sym a ∙ b));
}

-- the edges of a state

pub agrees_next : (sets n : ℕ) (level : ℕ → ℕ) (s : ℕ) (accepting : Bool) (es : List Edge) (k : ℕ) (e : Edge) → n ≡ sets → AllTo (Agrees sets level s accepting) es k → slice_get es k ≡ Some e → Agrees n level s accepting e
    → AllTo (Agrees sets level s accepting) es (k + 1)
agrees_next sets n level s accepting es k e same h g x = to_next (Agrees sets level s accepting) es k e h g (subst (λ m. Agrees m level s accepting e) same x)

pub agree_all : {X : Type 0} (G : Automaton) (level : ℕ → ℕ) (s : ℕ) (accepting : Bool) (view : X → Edge) (xs : List X) (k : ℕ) → map view xs ≡ (state_at G s).edges → length xs ≤ k
    → AllTo (Agrees G.sets level s accepting) (map view xs) k → EdgesAgree G level s accepting
agree_all G level s accepting view xs k is l h e p = to_all (Agrees G.sets level s accepting) view xs k l h e (subst (λ es. Has es e) (sym is) p)

-- edges without their marks

pub bare_next : (made more_made : List coded.CodedEdge) (x : coded.CodedEdge) (taken more_taken : List coded.CodedEdge) (e : coded.CodedEdge) → map coded_edge_of made ≡ map bare_coded (map coded_edge_of taken) → x.cube ≡ e.cube → x.marks ≡ 0
    → x.target ≡ e.target → more_made ≡ made ++ x ∷ [] → more_taken ≡ taken ++ e ∷ [] → map coded_edge_of more_made ≡ map bare_coded (map coded_edge_of more_taken)
bare_next made more_made x taken more_taken e w c m t q r =
    let same : coded_edge_of x ≡ bare_coded (coded_edge_of e) = λ i. coded_edge (c i) (t i) (m i) in
    map_pushed coded_edge_of made more_made x q ∙ ap (λ l. l ++ coded_edge_of x ∷ []) w ∙ ap (λ y. map bare_coded (map coded_edge_of taken) ++ y ∷ []) same
    ∙ sym (map_pushed bare_coded (map coded_edge_of taken) (map coded_edge_of more_taken) (coded_edge_of e) (map_pushed coded_edge_of taken more_taken e r))

-- ---- the automaton that is made, after so many states

pub record AreBased (G C : Automaton) (level : ℕ → ℕ) (made : Automaton) (n : ℕ) : Type 0 where
  pub long : length made.states ≡ n
  pub none : made.sets ≡ 0
  pub edges : (s : ℕ) → s < n → (state_at made s).edges ≡ map bare_coded (state_at C s).edges
  pub agree : (s : ℕ) → s < n → EdgesAgree G level s (state_at made s).accepting

pub based_next : (G C : Automaton) (level : ℕ → ℕ) (made next : Automaton) (n : ℕ) (accepting : Bool) (es : List Edge) → AreBased G C level made n → next ≡ with_state made accepting es
    → es ≡ map bare_coded (state_at C n).edges → EdgesAgree G level n accepting → AreBased G C level next (n + 1)
based_next G C level made next n accepting es m is q agreed = subst (λ x. AreBased G C level x (n + 1)) (sym is) (record {
  long = length-append made.states (one ∷ []) ∙ ap (λ k. k + 1) m.long;
  none = m.none;
  edges = below_next (λ s. (state_at (with_state made accepting es) s).edges ≡ map bare_coded (state_at C s).edges) n (λ s l. ap (λ (t : State). t.edges) (old s l) ∙ m.edges s l) (ap (λ (t : State). t.edges) new ∙ q);
  agree = below_next (λ s. EdgesAgree G level s (state_at (with_state made accepting es) s).accepting) n
      (λ s l. subst (λ (t : State). EdgesAgree G level s t.accepting) (sym (old s l)) (m.agree s l))
      (subst (λ (t : State). EdgesAgree G level n t.accepting) (sym new) agreed);
})
  where
    one : State
    one = record { accepting = accepting; edges = es }

    old : (s : ℕ) → s < n → state_at (with_state made accepting es) s ≡ state_at made s
    old s l = index_append made.states (one ∷ []) s no_state (subst (λ k. s < k) (sym m.long) l)

    new : state_at (with_state made accepting es) n ≡ one
    new = subst (λ k. slice_index_or (made.states ++ one ∷ []) k no_state ≡ one) m.long (index_done made.states [] one no_state)

-- the whole one, with its labels

module _ (t : Tables) (tables : AreTables t) (G C : Automaton) (is : labelled t C ≡ G) (in_table : AreCoded t C) (level : ℕ → ℕ) (made : Automaton) (m : AreBased G C level made (length C.states)) where
  no_marks : marks_in t (0 ∷ []) ≡ []
  no_marks = get_or_from_slice_get t.marks 0 [] [] tables.none

  relabelled : (xs : List Edge) → map (labelled_edge t) (map bare_coded xs) ≡ map bare_edge (map (labelled_edge t) xs)
  relabelled [] = refl
  relabelled (x ∷ xs) = ap₂ (λ (y : Edge) ys. y ∷ ys) (ap (λ k. let y : Edge = record { cube = cube_in t x.cube; target = x.target; marks = k } in y) no_marks) (relabelled xs)

  made_edges : (s : ℕ) → (state_at made s).edges ≡ map bare_coded (state_at C s).edges
  made_edges s = elim (cases_lt s (length C.states)) [
    | inl l ↦ m.edges s l
    | inr h ↦
        let a : (state_at made s).edges ≡ [] = ap (λ (x : State). x.edges) (get_or_past made.states s no_state (subst (λ k. k ≤ s) (sym m.long) h)) in
        let b : (state_at C s).edges ≡ [] = ap (λ (x : State). x.edges) (get_or_past C.states s no_state h) in
        a ∙ ap (map bare_coded) (sym b)
  ]

  based_whole : G.sets ≤ 1 → IsBasedBy G level (labelled t made)
  based_whole few = record {
    few = few;
    none = m.none;
    long = labelled_length t made ∙ m.long ∙ sym (labelled_length t C) ∙ ap (λ (A : Automaton). length A.states) is;
    edges = λ s.
        ap (λ (x : State). x.edges) (state_at_labelled t made s) ∙ ap (map (labelled_edge t)) (made_edges s) ∙ relabelled (state_at C s).edges
        ∙ ap (map bare_edge) (sym (ap (λ (x : State). x.edges) (state_at_labelled t C s)) ∙ ap (λ (A : Automaton). (state_at A s).edges) is);
    agree = λ s e h.
        let below : s < length G.states = has_edge_below G s e h in
        let long : length C.states ≡ length G.states = sym (labelled_length t C) ∙ ap (λ (A : Automaton). length A.states) is in
        subst (λ (b : Bool). Agrees G.sets level s b e) (sym (ap (λ (x : State). x.accepting) (state_at_labelled t made s))) (m.agree s (omega arith) e h);
  }

  based_coded : AreCoded t made
  based_coded = All-from_has (λ (s : State). All (IsCoded t) s.edges) made.states (λ u h.
      let (i, l, q) = Contains-from_has made.states u h in
      let same : (state_at made i).edges ≡ u.edges = ap (λ (x : State). x.edges) (sym (any_state made.states i u l) ∙ q) in
      All-from_has (IsCoded t) u.edges (λ e k.
      let (f, j, p) = map_cases bare_coded (state_at C i).edges e (subst (λ xs. Has xs e) (sym same ∙ made_edges i) k) in
      let had = All-at_has (IsCoded t) (state_at C i).edges (edges_within C (IsCoded t) i in_table) f j in
      subst (IsCoded t) (sym p) (record {
        cube = had.cube;
        marks = 0;
        is = ap (λ (x : Edge). let y : Edge = record { cube = x.cube; target = x.target; marks = 0 ∷ [] } in y) had.is;
        cube_within = had.cube_within;
        marks_within = slice_get_within t.marks 0 [] tables.none;
      })))

-- the same with a copy of the table, where all states are made

module _ (t u : Tables) (tables : AreTables t) (G C : Automaton) (is : labelled t C ≡ G) (in_table : AreCoded t C) (level : ℕ → ℕ) (made : Automaton) (n : ℕ) (m : AreBased G C level made n) (copy : u ≡ t) (all : n ≡ length G.states) where
  whole : AreBased G C level made (length C.states)
  whole = subst (AreBased G C level made) (all ∙ sym (sym (labelled_length t C) ∙ ap (λ (A : Automaton). length A.states) is)) m

  pub based_made : G.sets ≤ 1 → IsStateBased G (labelled u made)
  based_made few = (level, subst (λ x. IsBasedBy G level (labelled x made)) (sym copy) (based_whole t tables G C is in_table level made whole few))

  pub based_labels : AreTables u × AreCoded u made
  based_labels = (subst AreTables (sym copy) tables, subst (λ x. AreCoded x made) (sym copy) (based_coded t tables G C is in_table level made whole))
