-- The quotient of an automaton by names of classes has the same accepting runs.
use Rattle.std.proofs.Common.{◌≡◌, ℕ, zero, suc, ◌+◌, ◌<◌, ◌≤◌, Bool, cond, not, inl, inr, List, [], ◌∷◌, map, length, refl, sym, ◌∙◌, ap, subst, arith}
use Rattle.std.specs.Prelude.{IsTrue, ◌==◌, slice_index}
use Rattle.std.specs.Ordering.{nat_cmp}
use Rattle.std.specs.declared.cmp.Ordering.TheVariants.{Less}
use Rattle.std.proofs.lemmas.Bool.Decides.{Decides-eqb}
use Rattle.std.proofs.lemmas.Bool.{cases_lt}
use Rattle.std.proofs.lemmas.List.{get_or-map, get_or_past}
use Rattle.ltl_spec.specs.Collections.Sets.{Has, IsRising, set_of}
use Rattle.ltl_spec.specs.Collections.Lists.{place_of}
use Rattle.ltl_spec.specs.Transitions.Cubes.{allows}
use Rattle.ltl_spec.specs.Semantics.Word.{after_steps}
use Rattle.ltl_spec.specs.Automata.Automaton.{Automaton, State, Edge, state_at}
use Rattle.ltl_spec.specs.Construction.Merging.{retargeted_edge, retargeted_state, without_implied, quotient}
use Rattle.ltl_spec.proofs.Semantics.Runs.{Run, IsClosed}
use Rattle.ltl_spec.proofs.Collections.SetLaws.{all_at, set_of_cases, Has-set_of, IsRising-set_of}
use Rattle.ltl_spec.proofs.Collections.ListLaws.{Has-at, at_place, place_below}
use Rattle.ltl_spec.proofs.Collections.Orders.{nat_linear, edge_linear}
use Rattle.ltl_spec.proofs.Construction.ImpliedEdges.{IsSetEdge, Kept, thin_kept, thin_cases, thin_accepting, allows_fewer}
use Rattle.ltl_spec.proofs.Collections.MemberLaws.{Has-map, map_cases, map_length}
use Rattle.ltl_spec.proofs.Automata.ListedStates.{no_state, state_inside}

-- states and edges

-- the literals of each edge are a set, and its marks too
abbrev pub HasSetEdges : Automaton → Type 0
HasSetEdges A = (s : ℕ) (e : Edge) → Has (state_at A s).edges e → IsSetEdge e

-- every state is accepting
abbrev pub HasAllAccepting : Automaton → Type 0
HasAllAccepting A = (s : ℕ) → s < length A.states → IsTrue (state_at A s).accepting

-- then so is what stands past the last state
accepting_anywhere : (A : Automaton) → HasAllAccepting A → (s : ℕ) → IsTrue (state_at A s).accepting
accepting_anywhere A all s = elim (cases_lt s (length A.states)) [
  | inl l ↦ all s l
  | inr l ↦ ap (λ (u : State). u.accepting) (get_or_past A.states s no_state l)
]

-- the edges of a retargeted state are the retargeted edges
pub retarget_cases : (f : ℕ → ℕ) (s : State) (e : Edge) → Has (retargeted_state f s).edges e → (x : Edge) × Has s.edges x × (e ≡ retargeted_edge f x)
retarget_cases f s e h = map_cases (retargeted_edge f) s.edges e (set_of_cases edge_linear (map (retargeted_edge f) s.edges) e h)

pub Has-retargeted_edge : (f : ℕ → ℕ) (s : State) (x : Edge) → Has s.edges x → Has (retargeted_state f s).edges (retargeted_edge f x)
Has-retargeted_edge f s x h = Has-set_of edge_linear (map (retargeted_edge f) s.edges) (retargeted_edge f x) (Has-map (retargeted_edge f) s.edges x h)

-- where two states are alike after retargeting, each edge of the one has a match among those of the other
pub matching : (f : ℕ → ℕ) (s t : State) → retargeted_state f s ≡ retargeted_state f t → (x : Edge) → Has s.edges x → (y : Edge) × Has t.edges y × (retargeted_edge f x ≡ retargeted_edge f y)
matching f s t e x h = retarget_cases f t (retargeted_edge f x) (subst (λ (u : State). Has u.edges (retargeted_edge f x)) e (Has-retargeted_edge f s x h))

nothing_below : (y : ℕ) → nat_cmp y 0 ≡ Less → ⊥
nothing_below y e = grind arith

-- in a set of numbers 0 stands first
zero_first : (xs : List ℕ) → IsRising nat_cmp xs → Has xs 0 → place_of ◌==◌ 0 xs ≡ 0
zero_first [] r h = absurd h
zero_first (y ∷ ys) r (inl e) = ap (λ b. cond (not b) (1 + place_of ◌==◌ 0 ys) 0) ((Decides-eqb 0 y).1 e)
zero_first (y ∷ ys) r (inr h) = absurd (nothing_below y (all_at (λ z. nat_cmp y z ≡ Less) ys 0 r.0 h))

-- names of classes

-- Each state has a name, which isn't above it; the state and its name are alike up to the names of the targets
pub record IsNaming (A : Automaton) (names : List ℕ) : Type 0 where
  pub long : length names ≡ length A.states
  pub low : (s : ℕ) → s < length A.states → slice_index names s ≤ s
  pub alike : (s : ℕ) → s < length A.states → retargeted_state (slice_index names) (state_at A (slice_index names s)) ≡ retargeted_state (slice_index names) (state_at A s)

module _ (keep_implied : Bool) (names : List ℕ) (A : Automaton) (naming : IsNaming A names) where
  abbrev count : ℕ
  count = length A.states

  abbrev class_automaton : Automaton
  class_automaton = quotient keep_implied names A

  abbrev classes : List ℕ
  classes = set_of nat_cmp names

  -- the number of the class with this name
  abbrev number : ℕ → ℕ
  number c = place_of ◌==◌ c classes

  -- the number of a state's class
  abbrev number_of : ℕ → ℕ
  number_of s = number (slice_index names s)

  -- the state of the class with this name, before edges are left out
  abbrev class_state : ℕ → State
  class_state c = retargeted_state number_of (state_at A c)

  -- the name of a state names a class
  has_class : (s : ℕ) → s < count → Has classes (slice_index names s)
  has_class s l = let e = naming.long in Has-set_of nat_linear names (slice_index names s) (Has-at names s 0 (omega arith))

  -- there is a state of that number
  pub number_inside : (s : ℕ) → s < count → number_of s < length class_automaton.states
  number_inside s l =
      let e : length class_automaton.states ≡ length classes = map_length (λ c. without_implied keep_implied (class_state c)) classes in
      let n : number_of s < length classes = place_below ◌==◌ Decides-eqb (slice_index names s) classes (has_class s l) in
      omega arith

  -- it comes from the state that names the class
  pub at_number : (s : ℕ) → s < count → state_at class_automaton (number_of s) ≡ without_implied keep_implied (class_state (slice_index names s))
  at_number s l =
      let n = place_below ◌==◌ Decides-eqb (slice_index names s) classes (has_class s l) in
      get_or-map (λ c. without_implied keep_implied (class_state c)) classes (number_of s) 0 no_state n
      ∙ ap (λ c. without_implied keep_implied (class_state c)) (at_place ◌==◌ Decides-eqb (slice_index names s) classes 0 (has_class s l))

  -- the start is in the first class
  pub number_start : 0 < count → number_of 0 ≡ 0
  number_start l =
      let low : slice_index names 0 ≤ 0 = naming.low 0 l in
      let zero_name : slice_index names 0 ≡ 0 = omega arith in
      ap number zero_name ∙ zero_first classes (IsRising-set_of nat_linear names) (subst (λ c. Has classes c) zero_name (has_class 0 l))

  -- each state of the quotient comes from a state
  pub comes_from : (q : ℕ) → q < length class_automaton.states → (c : ℕ) × (state_at class_automaton q ≡ without_implied keep_implied (class_state c))
  comes_from q l =
      let e : length class_automaton.states ≡ length classes = map_length (λ c. without_implied keep_implied (class_state c)) classes in
      (slice_index classes q, get_or-map (λ c. without_implied keep_implied (class_state c)) classes q 0 no_state (omega arith))

  -- the same states are accepting
  pub number_accepting : (s : ℕ) → s < count → (state_at class_automaton (number_of s)).accepting ≡ (state_at A s).accepting
  number_accepting s l =
      ap (λ (u : State). u.accepting) (at_number s l)
      ∙ thin_accepting keep_implied (class_state (slice_index names s))
      ∙ ap (λ (u : State). u.accepting) (naming.alike s l)

  -- an edge between classes comes from an edge, and leads to its target's class
  pub class_edge : (q : ℕ) (f : Edge) → Has (state_at class_automaton q).edges f → (s : ℕ) × ((e : Edge) × Has (state_at A s).edges e × (f ≡ retargeted_edge number_of e))
  class_edge q f h =
      let (c, i) = comes_from q (state_inside class_automaton.states q f h) in
      (c, retarget_cases number_of (state_at A c) f (thin_cases keep_implied (class_state c) f (subst (λ (u : State). Has u.edges f) i h)))

  -- from each state of a class goes an edge that matches the class's edge
  pub edge_back : (s : ℕ) → s < count → (f : Edge) → Has (state_at class_automaton (number_of s)).edges f → (e : Edge) × Has (state_at A s).edges e × (f ≡ retargeted_edge number_of e)
  edge_back s l f h =
      let c = slice_index names s in
      let (x, m, i) = retarget_cases number_of (state_at A c) f (thin_cases keep_implied (class_state c) f (subst (λ (u : State). Has u.edges f) (at_number s l) h)) in
      let (y, n, j) = matching (slice_index names) (state_at A c) (state_at A s) (naming.alike s l) x m in
      (y, n, i ∙ ap (retargeted_edge number) j)

  -- for each edge the class has one that can stand for it
  pub edge_on : HasSetEdges A → (s : ℕ) → s < count → (e : Edge) → Has (state_at A s).edges e → Kept (state_at class_automaton (number_of s)).edges (retargeted_edge number_of e)
  edge_on sets s l e h =
      let c = slice_index names s in
      let (y, n, j) = matching (slice_index names) (state_at A s) (state_at A c) (sym (naming.alike s l)) e h in
      let there : Has (class_state c).edges (retargeted_edge number_of e) =
      subst (λ x. Has (class_state c).edges x) (sym (ap (retargeted_edge number) j)) (Has-retargeted_edge number_of (state_at A c) y n) in
      subst (λ (u : State). Kept u.edges (retargeted_edge number_of e)) (sym (at_number s l)) (thin_kept keep_implied (class_state c) (set_edges c) (retargeted_edge number_of e) there)
    where
      set_edges : (c : ℕ) (x : Edge) → Has (class_state c).edges x → IsSetEdge x
      set_edges c x m =
          let (y, n, j) = retarget_cases number_of (state_at A c) x m in
          let p = sets c y n in
          subst (λ x. IsSetEdge x) (sym j) (record { cube = p.cube; marks = p.marks })

  -- what the quotient keeps

  pub quotient_closed : IsClosed A → IsClosed class_automaton
  quotient_closed closed = record {
    begins = let l = number_inside 0 closed.begins in omega arith;
    inside = λ q f h.
        let (s, w) = class_edge q f h in
        subst (λ n. n < length class_automaton.states) (sym (ap (λ (x : Edge). x.target) w.2)) (number_inside w.0.target (closed.inside s w.0 w.1));
  }

  pub quotient_sets : HasSetEdges A → HasSetEdges class_automaton
  quotient_sets sets q f h =
      let (s, w) = class_edge q f h in
      let p = sets s w.0 w.1 in
      subst (λ x. IsSetEdge x) (sym w.2) (record { cube = p.cube; marks = p.marks })

  pub quotient_accepting : HasAllAccepting A → HasAllAccepting class_automaton
  quotient_accepting all q l =
      let (c, i) = comes_from q l in
      ap (λ (u : State). u.accepting) i ∙ thin_accepting keep_implied (class_state c) ∙ accepting_anywhere A all c

  -- runs

  module _ (holds : ℕ → ℕ → Bool) (step : ℕ → ℕ) where
    -- a run goes along the classes of its states, on edges that can stand for its own
    pub quotient_run : IsClosed A → HasSetEdges A → Run A holds step → Run class_automaton holds step
    quotient_run closed sets r = record {
      state = λ k. number_of (r.state k);
      edge = λ k. (kept k).0;
      starts = ap number_of r.starts ∙ number_start closed.begins;
      edges = λ k. (kept k).1;
      leads = λ k. ap number_of (r.leads k) ∙ sym (kept k).2.target;
      allowed = λ k. allows_fewer (holds (after_steps step k 0)) (kept k).0.cube (r.edge k).cube (kept k).2.cube (r.allowed k);
      accepts = λ k. let (j, l, a) = r.accepts k in (j, l, number_accepting (r.state j) (inside j) ∙ a);
      marks = λ f k l. let (j, m, h) = r.marks f k l in (j, m, (kept j).2.marks f h);
    }
      where
        inside : (k : ℕ) → r.state k < count
        inside k = state_inside A.states (r.state k) (r.edge k) (r.edges k)

        kept : (k : ℕ) → Kept (state_at class_automaton (number_of (r.state k))).edges (retargeted_edge number_of (r.edge k))
        kept k = edge_on sets (r.state k) (inside k) (r.edge k) (r.edges k)

    module _ (closed : IsClosed A) (r : Run class_automaton holds step) where
      -- a state of the class that the run has reached
      abbrev Reached : ℕ → Type 0
      Reached k = (s : ℕ) × (s < count) × (number_of s ≡ r.state k)

      abbrev Match : ℕ → ℕ → Type 0
      Match k s = (e : Edge) × Has (state_at A s).edges e × (r.edge k ≡ retargeted_edge number_of e)

      match : (k : ℕ) (p : Reached k) → Match k p.0
      match k p = edge_back p.0 p.1 (r.edge k) (subst (λ q. Has (state_at class_automaton q).edges (r.edge k)) (sym p.2) (r.edges k))

      -- the states, each reached from the one before on the edge that matches
      reached : (k : ℕ) → Reached k
      reached zero = (0, closed.begins, number_start closed.begins ∙ sym r.starts)
      reached (suc k) =
          let p = reached k in
          let w = match k p in
          (w.0.target, closed.inside p.0 w.0 w.1, sym (r.leads k ∙ ap (λ (x : Edge). x.target) w.2))

      matched : (k : ℕ) → Match k (reached k).0
      matched k = match k (reached k)

      -- a run of the quotient is followed by a run of the automaton
      pub run_of_quotient : Run A holds step
      unfolding reached matched
      run_of_quotient = record {
        state = λ k. (reached k).0;
        edge = λ k. (matched k).0;
        starts = refl;
        edges = λ k. (matched k).1;
        leads = λ k. refl;
        allowed = λ k. subst (λ (x : Edge). IsTrue (allows (holds (after_steps step k 0)) x.cube)) (matched k).2 (r.allowed k);
        accepts = λ k. let (j, l, a) = r.accepts k in (j, l, sym (number_accepting (reached j).0 (reached j).1) ∙ subst (λ q. IsTrue (state_at class_automaton q).accepting) (sym (reached j).2) a);
        marks = λ f k l. let (j, m, h) = r.marks f k l in (j, m, subst (λ (x : Edge). Has x.marks f) (matched j).2 h);
      }
