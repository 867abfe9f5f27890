-- A product has an accepting run exactly when both automata have one.
use Rattle.std.proofs.Common.{◌≡◌, ℕ, suc, ◌*◌, ◌<◌, Bool, true, false, cond, inl, inr, List, [], ◌∷◌, ◌++◌, map, length, refl, sym, ◌∙◌, ap, subst, arith, Some, None}
use Rattle.std.specs.Prelude.{IsTrue, filter_map, option_map}
use Rattle.std.proofs.lemmas.List.FromFn.{get_or-map-range_with_len, length-map-range_with_len}
use Rattle.std.proofs.lemmas.Nat.{div-mul-add, mod-mul-add, mul-add-lt}
use Rattle.std.proofs.Math.Nat.{mul_comm}
use Rattle.ltl_spec.specs.Collections.Sets.{Has, union}
use Rattle.ltl_spec.specs.Transitions.Cubes.{Literal, Cube, literal_cmp, is_contradictory, allows}
use Rattle.ltl_spec.specs.Semantics.Word.{after_steps}
use Rattle.ltl_spec.specs.Automata.Automaton.{Automaton, State, Edge, state_at}
use Rattle.ltl_spec.specs.Checking.Product.{renamed_literal, renamed_cube, renamed_edge, renamed_state, renamed_automaton, joined_edge, pair_number, first_state, second_state, joined_edges, joined_state, product_automaton}
use Rattle.ltl_spec.specs.Checking.Bounds.{HasNamesBelow, HasMarksInside, AcceptsEverywhere, HasTargetsInside}
use Rattle.ltl_spec.proofs.Collections.SetLaws.{append_cases, append_left, append_right, set_of_cases, Has-set_of, union_left, union_right}
use Rattle.ltl_spec.proofs.Collections.Orders.{literal_linear}
use Rattle.ltl_spec.proofs.Collections.MemberLaws.{Has-map, map_cases, map_length, Has-flat_map, flat_map_cases, Has-filter_map, filter_map_cases}
use Rattle.ltl_spec.proofs.Transitions.CubeLaws.{Agrees, allows_Decides, agrees_union, join_cubes_agree}
use Rattle.ltl_spec.proofs.Automata.ListedStates.{no_state, has_edge_below, mapped_at}
use Rattle.ltl_spec.proofs.Semantics.Runs.{RunFrom}
use Rattle.ltl_spec.proofs.Collections.CaseLaws.{last_or_below}
use Rattle.ltl_spec.proofs.Semantics.RunLaws.{retold}

-- propositions below n are true as before, under a new number
abbrev pub KeepsTruth : ℕ → (ℕ → ℕ) → (ℕ → ℕ → Bool) → (ℕ → ℕ → Bool) → Type 0
KeepsTruth n number old new = (i p : ℕ) → p < n → new i (number p) ≡ old i p

-- a cube allows a letter under the new numbers exactly when it did
agrees_renamed : (number : ℕ → ℕ) (old new : ℕ → Bool) (c : Cube) → ((l : Literal) → Has c l → new (number l.proposition) ≡ old l.proposition) → Agrees old c → Agrees new (renamed_cube number c)
agrees_renamed number old new c keeps f m h =
    let (l, k, e) = map_cases (renamed_literal number) c m (set_of_cases literal_linear (map (renamed_literal number) c) m h) in
    subst (λ (x : Literal). new x.proposition ≡ x.positive) (sym e) (keeps l k ∙ f l k)

renamed_agrees : (number : ℕ → ℕ) (old new : ℕ → Bool) (c : Cube) → ((l : Literal) → Has c l → new (number l.proposition) ≡ old l.proposition) → Agrees new (renamed_cube number c) → Agrees old c
renamed_agrees number old new c keeps f l h =
    sym (keeps l h) ∙ f (renamed_literal number l) (Has-set_of literal_linear (map (renamed_literal number) c) (renamed_literal number l) (Has-map (renamed_literal number) c l h))

-- a run where the propositions of its cubes have the same truth
pub retold_run : (s n : ℕ) (A : Automaton) (old new : ℕ → ℕ → Bool) (step : ℕ → ℕ) → HasNamesBelow n A → KeepsTruth n (λ p. p) old new → RunFrom s A old step → RunFrom s A new step
retold_run s n A old new step below keeps r = retold s A old new step step r allowed
  where
    allowed : (k : ℕ) → IsTrue (allows (new (after_steps step k 0)) (r.edge k).cube)
    allowed k =
        let i = after_steps step k 0 in
        let agrees = (allows_Decides (old i) (r.edge k).cube).0 (r.allowed k) in
        (allows_Decides (new i) (r.edge k).cube).1 (λ l h. keeps i l.proposition (below (r.state k) (r.edge k) (r.edges k) l h) ∙ agrees l h)

module _ (number : ℕ → ℕ) (B : Automaton) where
  -- a state of the renamed automaton is a renamed state
  pub renamed_at : (s : ℕ) → state_at (renamed_automaton number B) s ≡ renamed_state number (state_at B s)
  renamed_at s = mapped_at (renamed_state number) refl B.states s

  Has-renamed : (s : ℕ) (e : Edge) → Has (state_at B s).edges e → Has (state_at (renamed_automaton number B) s).edges (renamed_edge number e)
  Has-renamed s e h = subst (λ (t : State). Has t.edges (renamed_edge number e)) (sym (renamed_at s)) (Has-map (renamed_edge number) (state_at B s).edges e h)

  pub renamed_cases : (s : ℕ) (f : Edge) → Has (state_at (renamed_automaton number B) s).edges f → (e : Edge) × Has (state_at B s).edges e × (f ≡ renamed_edge number e)
  renamed_cases s f h = map_cases (renamed_edge number) (state_at B s).edges f (subst (λ (t : State). Has t.edges f) (renamed_at s) h)

  renamed_accepting : (s : ℕ) → (state_at (renamed_automaton number B) s).accepting ≡ (state_at B s).accepting
  renamed_accepting s = ap (λ (t : State). t.accepting) (renamed_at s)

  -- renaming keeps the targets inside
  pub renamed_inside : HasTargetsInside B → HasTargetsInside (renamed_automaton number B)
  renamed_inside inside s f h =
      let (e, k, q) = renamed_cases s f h in
      let l = inside s e k in
      let m = map_length (renamed_state number) B.states in
      subst (λ (x : Edge). x.target < length (renamed_automaton number B).states) (sym q) (omega (arith, l, m))

  module _ (s n : ℕ) (old new : ℕ → ℕ → Bool) (step : ℕ → ℕ) (below : HasNamesBelow n B) (keeps : KeepsTruth n number old new) where
    -- renaming keeps the runs
    pub renamed_run : RunFrom s B old step → RunFrom s (renamed_automaton number B) new step
    renamed_run r = record {
      state = r.state;
      edge = λ k. renamed_edge number (r.edge k);
      starts = r.starts;
      edges = λ k. Has-renamed (r.state k) (r.edge k) (r.edges k);
      leads = r.leads;
      allowed = λ k.
          let i = after_steps step k 0 in
          let c = (r.edge k).cube in
          (allows_Decides (new i) (renamed_cube number c)).1
          (agrees_renamed number (old i) (new i) c (λ l h. keeps i l.proposition (below (r.state k) (r.edge k) (r.edges k) l h)) ((allows_Decides (old i) c).0 (r.allowed k)));
      accepts = λ k. let w = r.accepts k in (w.0, w.1, subst IsTrue (sym (renamed_accepting (r.state w.0))) w.2);
      marks = r.marks;
    }

    pub run_of_renamed : RunFrom s (renamed_automaton number B) new step → RunFrom s B old step
    run_of_renamed r = record {
      state = r.state;
      edge = λ k. (chosen k).0;
      starts = r.starts;
      edges = λ k. (chosen k).1;
      leads = λ k. r.leads k ∙ ap (λ (e : Edge). e.target) (chosen k).2;
      allowed = λ k.
          let i = after_steps step k 0 in
          let c = (chosen k).0.cube in
          let here = subst (λ (e : Edge). IsTrue (allows (new i) e.cube)) (chosen k).2 (r.allowed k) in
          (allows_Decides (old i) c).1
          (renamed_agrees number (old i) (new i) c (λ l h. keeps i l.proposition (below (r.state k) (chosen k).0 (chosen k).1 l h)) ((allows_Decides (new i) (renamed_cube number c)).0 here));
      accepts = λ k. let w = r.accepts k in (w.0, w.1, subst IsTrue (renamed_accepting (r.state w.0)) w.2);
      marks = λ f k l. let w = r.marks f k l in (w.0, w.1, subst (λ (e : Edge). Has e.marks f) (chosen w.0).2 w.2);
    }
      where
        chosen : (k : ℕ) → (e : Edge) × Has (state_at B (r.state k)).edges e × (r.edge k ≡ renamed_edge number e)
        chosen k = renamed_cases (r.state k) (r.edge k) (r.edges k)

-- the mark of an accepting state
abbrev mark_if : Bool → ℕ → List ℕ
mark_if accepting sets = cond accepting (sets ∷ []) []

-- two edges at once
abbrev pub both_edges : ℕ → (ℕ → ℕ → ℕ) → Bool → Edge → Edge → Edge
both_edges sets number accepting e f = record { cube = union literal_cmp e.cube f.cube; target = number e.target f.target; marks = e.marks ++ mark_if accepting sets }

-- what joins is both edges at once, without contradiction
pub joined_is : (sets : ℕ) (number : ℕ → ℕ → ℕ) (accepting : Bool) (e f g : Edge) → joined_edge sets number accepting e f ≡ Some g → (g ≡ both_edges sets number accepting e f) × (is_contradictory (union literal_cmp e.cube f.cube) ≡ false)
joined_is sets number accepting e f g h = at (is_contradictory (union literal_cmp e.cube f.cube)) refl h
  where
    at : (t : Bool) → is_contradictory (union literal_cmp e.cube f.cube) ≡ t → option_map (λ c. record { cube = c; target = number e.target f.target; marks = e.marks ++ mark_if accepting sets }) (cond t None (Some (union literal_cmp e.cube f.cube))) ≡ Some g → (g ≡ both_edges sets number accepting e f) × (t ≡ false)
    at true q d = cc
    at false q d = (cc, refl)

module _ (A B : Automaton) where
  -- both edges at once, in the product
  abbrev pub both_at : ℕ → Edge → Edge → Edge
  both_at t e f = both_edges A.sets (pair_number A B) (state_at B t).accepting e f

  -- the state of the product at a number
  pub product_at : (k : ℕ) → k < length A.states * length B.states → state_at (product_automaton A B) k ≡ joined_state A B k
  product_at k l = get_or-map-range_with_len (joined_state A B) 0 (length A.states * length B.states) k k no_state l (omega arith)

  pub product_length : length (product_automaton A B).states ≡ length A.states * length B.states
  product_length = length-map-range_with_len (joined_state A B) 0 (length A.states * length B.states)

  -- a state with an edge is one of the pairs
  pub product_below : (k : ℕ) (g : Edge) → Has (state_at (product_automaton A B) k).edges g → k < length A.states * length B.states
  product_below k g h = subst (λ n. k < n) product_length (has_edge_below (product_automaton A B) k g h)

  -- an edge of the product is one of each side
  pub product_cases : (k : ℕ) (g : Edge) → Has (state_at (product_automaton A B) k).edges g
      → (e : Edge) × (f : Edge) × Has (state_at A (first_state A B k)).edges e × Has (state_at B (second_state A B k)).edges f
      × (g ≡ both_at (second_state A B k) e f) × (is_contradictory (union literal_cmp e.cube f.cube) ≡ false)
  product_cases k g h =
      let s = state_at A (first_state A B k) in
      let t = state_at B (second_state A B k) in
      let here = subst (λ (x : State). Has x.edges g) (product_at k (product_below k g h)) h in
      let (e, m, n) = flat_map_cases (λ x. filter_map (joined_edge A.sets (pair_number A B) t.accepting x) t.edges) s.edges g here in
      let (f, p, q) = filter_map_cases (joined_edge A.sets (pair_number A B) t.accepting e) t.edges g n in
      let w = joined_is A.sets (pair_number A B) t.accepting e f g q in
      (e, f, m, p, w.0, w.1)

  -- the number of a pair, and back
  pub pair_below : (s t : ℕ) → s < length A.states → t < length B.states → pair_number A B s t < length A.states * length B.states
  pair_below s t l m = subst (λ n. pair_number A B s t < n) (mul_comm (length B.states) (length A.states)) (mul-add-lt s (length B.states) t (length A.states) l m)

  pub first_of_pair : (s t : ℕ) → t < length B.states → first_state A B (pair_number A B s t) ≡ s
  first_of_pair s t l = div-mul-add s (length B.states) t l

  pub second_of_pair : (s t : ℕ) → t < length B.states → second_state A B (pair_number A B s t) ≡ t
  second_of_pair s t l = mod-mul-add s (length B.states) t l

  -- the pair's state
  pub product_at_pair : (s t : ℕ) → s < length A.states → t < length B.states → (state_at (product_automaton A B) (pair_number A B s t)).edges ≡ joined_edges A B (state_at A s) (state_at B t)
  product_at_pair s t l m =
      ap (λ (x : State). x.edges) (product_at (pair_number A B s t) (pair_below s t l m))
      ∙ ap (λ x. joined_edges A B (state_at A x) (state_at B (second_state A B (pair_number A B s t)))) (first_of_pair s t m)
      ∙ ap (λ x. joined_edges A B (state_at A s) (state_at B x)) (second_of_pair s t m)

  -- two edges that join are an edge of the pair
  pub Has-product : (s t : ℕ) (e f g : Edge) → Has (state_at A s).edges e → Has (state_at B t).edges f → joined_edge A.sets (pair_number A B) (state_at B t).accepting e f ≡ Some g
      → Has (state_at (product_automaton A B) (pair_number A B s t)).edges g
  Has-product s t e f g h k joins =
      subst (λ es. Has es g) (sym (product_at_pair s t (has_edge_below A s e h) (has_edge_below B t f k)))
      (Has-flat_map (λ x. filter_map (joined_edge A.sets (pair_number A B) (state_at B t).accepting x) (state_at B t).edges) (state_at A s).edges e g h
      (Has-filter_map (joined_edge A.sets (pair_number A B) (state_at B t).accepting e) (state_at B t).edges f g k joins))

  -- two edges that a letter allows join
  Has-both : (truth : ℕ → Bool) (s t : ℕ) (e f : Edge) → Has (state_at A s).edges e → Has (state_at B t).edges f → Agrees truth e.cube → Agrees truth f.cube
      → Has (state_at (product_automaton A B) (pair_number A B s t)).edges (both_at t e f)
  Has-both truth s t e f h k a b =
      let tail = mark_if (state_at B t).accepting A.sets in
      let joins = ap (option_map (λ c. record { cube = c; target = pair_number A B e.target f.target; marks = e.marks ++ tail })) (join_cubes_agree truth e.cube f.cube a b) in
      Has-product s t e f (both_at t e f) h k joins

  module _ (holds : ℕ → ℕ → Bool) (step : ℕ → ℕ) where
    -- two runs side by side
    pub product_run : (s t : ℕ) → RunFrom s A holds step → RunFrom t B holds step → RunFrom (pair_number A B s t) (product_automaton A B) holds step
    product_run s t a b = record {
      state = λ k. pair_number A B (a.state k) (b.state k);
      edge = λ k. both_at (b.state k) (a.edge k) (b.edge k);
      starts = ap (λ x. pair_number A B x (b.state 0)) a.starts ∙ ap (pair_number A B s) b.starts;
      edges = λ k. Has-both (holds (after_steps step k 0)) (a.state k) (b.state k) (a.edge k) (b.edge k) (a.edges k) (b.edges k) (first_agrees k) (second_agrees k);
      leads = λ k. ap (λ x. pair_number A B x (b.state (suc k))) (a.leads k) ∙ ap (pair_number A B (a.edge k).target) (b.leads k);
      allowed = λ k. let truth = holds (after_steps step k 0) in
          (allows_Decides truth (union literal_cmp (a.edge k).cube (b.edge k).cube)).1 (agrees_union truth (a.edge k).cube (b.edge k).cube (first_agrees k) (second_agrees k));
      accepts = λ k. (
        k,
        omega arith,
        ap (λ (x : State). x.accepting) (product_at (pair_number A B (a.state k) (b.state k))
            (pair_below (a.state k) (b.state k) (has_edge_below A (a.state k) (a.edge k) (a.edges k)) (has_edge_below B (b.state k) (b.edge k) (b.edges k)))),
      );
      marks = λ f k l. elim (last_or_below f A.sets (omega (arith, l))) [
        | inl m ↦ let w = a.marks f k m in (w.0, w.1, append_left (a.edge w.0).marks (mark_if (state_at B (b.state w.0)).accepting A.sets) f w.2)
        | inr e ↦
            let w = b.accepts k in
            (w.0, w.1, append_right (a.edge w.0).marks (mark_if (state_at B (b.state w.0)).accepting A.sets) f (subst (λ t'. Has (mark_if t' A.sets) f) (sym w.2) (inl e)))
      ];
    }
      where
        first_agrees : (k : ℕ) → Agrees (holds (after_steps step k 0)) (a.edge k).cube
        first_agrees k = (allows_Decides (holds (after_steps step k 0)) (a.edge k).cube).0 (a.allowed k)

        second_agrees : (k : ℕ) → Agrees (holds (after_steps step k 0)) (b.edge k).cube
        second_agrees k = (allows_Decides (holds (after_steps step k 0)) (b.edge k).cube).0 (b.allowed k)

    module _ (inside : HasTargetsInside B) (s t : ℕ) (small : t < length B.states) (r : RunFrom (pair_number A B s t) (product_automaton A B) holds step) where
      -- the edges behind the product's
      chosen : (k : ℕ) → (e : Edge) × (f : Edge) × Has (state_at A (first_state A B (r.state k))).edges e × Has (state_at B (second_state A B (r.state k))).edges f
          × (r.edge k ≡ both_at (second_state A B (r.state k)) e f) × (is_contradictory (union literal_cmp e.cube f.cube) ≡ false)
      chosen k = product_cases (r.state k) (r.edge k) (r.edges k)

      agrees : (k : ℕ) → Agrees (holds (after_steps step k 0)) (union literal_cmp (chosen k).0.cube (chosen k).1.cube)
      agrees k =
          let truth = holds (after_steps step k 0) in
          (allows_Decides truth (union literal_cmp (chosen k).0.cube (chosen k).1.cube)).0 (subst (λ (e : Edge). IsTrue (allows truth e.cube)) (chosen k).4 (r.allowed k))

      goes : (k : ℕ) → r.state (suc k) ≡ pair_number A B (chosen k).0.target (chosen k).1.target
      goes k = r.leads k ∙ ap (λ (e : Edge). e.target) (chosen k).4

      target_below : (k : ℕ) → (chosen k).1.target < length B.states
      target_below k = inside (second_state A B (r.state k)) (chosen k).1 (chosen k).3

      -- the one side
      pub first_run : AcceptsEverywhere A → HasMarksInside A → RunFrom s A holds step
      first_run all marks = record {
        state = λ k. first_state A B (r.state k);
        edge = λ k. (chosen k).0;
        starts = ap (first_state A B) r.starts ∙ first_of_pair s t small;
        edges = λ k. (chosen k).2;
        leads = λ k. ap (first_state A B) (goes k) ∙ first_of_pair (chosen k).0.target (chosen k).1.target (target_below k);
        allowed = λ k.
            let truth = holds (after_steps step k 0) in
            (allows_Decides truth (chosen k).0.cube).1 (λ l h. agrees k l (union_left literal_linear (chosen k).0.cube (chosen k).1.cube l h));
        accepts = λ k. (k, omega arith, all (first_state A B (r.state k)));
        marks = λ f k l.
            let w = r.marks f k (omega arith) in
            let here = subst (λ (e : Edge). Has e.marks f) (chosen w.0).4 w.2 in
            (w.0, w.1, own (chosen w.0).0.marks (state_at B (second_state A B (r.state w.0))).accepting f l here);
      }
        where
          own : (ms : List ℕ) (accepting : Bool) (f : ℕ) → f < A.sets → Has (ms ++ mark_if accepting A.sets) f → Has ms f
          own ms true f l h = elim (append_cases ms (A.sets ∷ []) f h) [ inl k ↦ k | inr k ↦ elim k [ inl e ↦ absurd (omega arith) | inr z ↦ absurd z ] ]
          own ms false f l h = elim (append_cases ms [] f h) [ inl k ↦ k | inr k ↦ absurd k ]

      -- and the other
      pub second_run : HasMarksInside A → B.sets ≡ 0 → RunFrom t B holds step
      second_run marks none = record {
        state = λ k. second_state A B (r.state k);
        edge = λ k. (chosen k).1;
        starts = ap (second_state A B) r.starts ∙ second_of_pair s t small;
        edges = λ k. (chosen k).3;
        leads = λ k. ap (second_state A B) (goes k) ∙ second_of_pair (chosen k).0.target (chosen k).1.target (target_below k);
        allowed = λ k.
            let truth = holds (after_steps step k 0) in
            (allows_Decides truth (chosen k).1.cube).1 (λ l h. agrees k l (union_right literal_linear (chosen k).0.cube (chosen k).1.cube l h));
        accepts = λ k.
            let w = r.marks A.sets k (omega arith) in
            let here = subst (λ (e : Edge). Has e.marks A.sets) (chosen w.0).4 w.2 in
            (w.0, w.1, marked (chosen w.0).0.marks (state_at B (second_state A B (r.state w.0))).accepting (marks (first_state A B (r.state w.0)) (chosen w.0).0 (chosen w.0).2) here);
        marks = λ f k l. absurd (omega arith);
      }
        where
          marked : (ms : List ℕ) (accepting : Bool) → ((k : ℕ) → Has ms k → k < A.sets) → Has (ms ++ mark_if accepting A.sets) A.sets → IsTrue accepting
          marked ms true below h = refl
          marked ms false below h = elim (append_cases ms [] A.sets h) [ inl k ↦ (let l = below A.sets k in absurd (omega arith)) | inr k ↦ absurd k ]
