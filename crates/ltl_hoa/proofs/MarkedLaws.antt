-- What a text reads as keeps to what the type of automata that were read holds.
use Rattle.std.proofs.Common.{◌≡◌, ℕ, zero, suc, ◌+◌, ◌<◌, ◌≤◌, Bool, true, false, ◌&&◌, List, [], ◌∷◌, ◌++◌, length, refl, sym, ◌∙◌, ap, subst, arith, length-append}
use Rattle.std.specs.Prelude.{◌==◌, if◌then◌else◌, nat_lt, map, flat_map, filter, sum_by, unwrap_or, All}
use Rattle.std.specs.List.{range_with_len}
use Rattle.std.specs.Ordering.{nat_cmp}
use Rattle.std.proofs.lemmas.Bool.{eqb-true, false_from_ne_true, ltb-true}
use Rattle.std.proofs.lemmas.List.FromFn.{length-map-range_with_len}
use Rattle.std.proofs.lemmas.List.Sums.{sum_by-cons}
use Rattle.ltl_spec.specs.Collections.Sets.{Has, set_of}
use Rattle.ltl_spec.specs.Automata.Automaton.{Edge}
use Rattle.ltl_spec.specs.Transitions.Cubes.{Cube}
use Rattle.ltl_spec.specs.Tools.Limits.{stated_limits}
use Rattle.ltl_spec.specs.Hoa.HoaLabel.{label_cubes, is_grouped, has_names_below}
use Rattle.ltl_spec.specs.Hoa.HoaReading.{AcceptanceForm, stated_form, WrittenEdge, WrittenState, HoaDocument, cube_edges, state_edges, edges_at, MarkedAutomaton, are_sets, is_edge_inside, is_state_inside, IsDocumentOf, HoaReadsWithin}
use Rattle.ltl_spec.proofs.Collections.CaseLaws.{left_true, right_true}
use Rattle.ltl_spec.proofs.Collections.ListLaws.{All-from_has}
use Rattle.ltl_spec.proofs.Collections.SetLaws.{filter_cases}
use Rattle.ltl_spec.proofs.Collections.MemberLaws.{map_cases, flat_map_cases, all_Decides}
use Rattle.ltl_spec.proofs.Checking.DocumentLaws.{document_proper}
use Rattle.ltl_hoa.specs.MarkedView.{IsMarked, IsEdgeWithin}

-- ---- the edges of all states are no more than those that are written

-- what stands at one number is counted once at most

zero_more : (n : ℕ) → n ≡ 0 + n
zero_more n = omega arith

none_counted : (c n m j : ℕ) → n < m → sum_by (λ k. if n == k then c else 0) (range_with_len m j) ≡ 0
none_counted c n m zero l = refl
none_counted c n m (suc j) l =
    sum_by-cons (λ k. if n == k then c else 0) m (range_with_len (m + 1) j)
    ∙ ap (λ t. (if t then c else 0) + sum_by (λ k. if n == k then c else 0) (range_with_len (m + 1) j)) (other n m l)
    ∙ sym (zero_more _)
    ∙ none_counted c n (m + 1) j (omega (arith, l))
  where
    other : (a b : ℕ) → a < b → (a == b) ≡ false
    other a b h = false_from_ne_true (a == b) (λ e. (let h1 = eqb-true a b e in omega (arith, h, h1)))

once_counted : (c n m j : ℕ) → sum_by (λ k. if n == k then c else 0) (range_with_len m j) ≤ c
once_counted c n m zero = omega arith
once_counted c n m (suc j) = go (n == m) refl (once_counted c n (m + 1) j)
  where
    all : sum_by (λ k. if n == k then c else 0) (range_with_len m (suc j)) ≡ (if n == m then c else 0) + sum_by (λ k. if n == k then c else 0) (range_with_len (m + 1) j)
    all = sum_by-cons (λ k. if n == k then c else 0) m (range_with_len (m + 1) j)

    go : (t : Bool) → (n == m) ≡ t → sum_by (λ k. if n == k then c else 0) (range_with_len (m + 1) j) ≤ c → sum_by (λ k. if n == k then c else 0) (range_with_len m (suc j)) ≤ c
    go true e l =
        let same : n ≡ m = eqb-true n m e in
        let rest = none_counted c n (m + 1) j (omega (arith, same)) in
        let here = all ∙ ap (λ t. (if t then c else 0) + sum_by (λ k. if n == k then c else 0) (range_with_len (m + 1) j)) e in
        omega (arith, here, rest)
    go false e l =
        let here = all ∙ ap (λ t. (if t then c else 0) + sum_by (λ k. if n == k then c else 0) (range_with_len (m + 1) j)) e in
        omega (arith, here, l)

sum_of_two : (f g h : ℕ → ℕ) (ks : List ℕ) → ((k : ℕ) → h k ≡ f k + g k) → sum_by h ks ≡ sum_by f ks + sum_by g ks
sum_of_two f g h [] e = refl
sum_of_two f g h (k ∷ ks) e =
    let a = sum_by-cons h k ks in
    let b = sum_by-cons f k ks in
    let c = sum_by-cons g k ks in
    let d = sum_of_two f g h ks e in
    let here = e k in
    omega (arith, a, b, c, d, here)

abbrev edges_among : List WrittenState → ℕ → List Edge
edges_among ss k = flat_map state_edges (filter (λ s. s.number == k) ss)

one_more : (s : WrittenState) (ss : List WrittenState) (k : ℕ) → length (edges_among (s ∷ ss) k) ≡ (if s.number == k then length (state_edges s) else 0) + length (edges_among ss k)
one_more s ss k = go (s.number == k)
  where
    go : (t : Bool) → length (flat_map state_edges (if t then s ∷ filter (λ x. x.number == k) ss else filter (λ x. x.number == k) ss)) ≡ (if t then length (state_edges s) else 0) + length (edges_among ss k)
    go true = length-append (state_edges s) (edges_among ss k)
    go false = zero_more (length (edges_among ss k))

none_summed : (ks : List ℕ) → sum_by (λ k. length (edges_among [] k)) ks ≡ 0
none_summed [] = refl
none_summed (k ∷ ks) = none_summed ks

edges_counted : (ss : List WrittenState) (m j : ℕ) → sum_by (λ k. length (edges_among ss k)) (range_with_len m j) ≤ sum_by (λ s. length (state_edges s)) ss
edges_counted [] m j = let none = none_summed (range_with_len m j) in omega (arith, none)
edges_counted (s ∷ ss) m j =
    let split = sum_of_two (λ k. if s.number == k then length (state_edges s) else 0) (λ k. length (edges_among ss k)) (λ k. length (edges_among (s ∷ ss) k)) (range_with_len m j) (one_more s ss) in
    let first = once_counted (length (state_edges s)) s.number m j in
    let rest = edges_counted ss m j in
    let whole = sum_by-cons (λ t. length (state_edges t)) s ss in
    omega (arith, split, first, rest, whole)

sum_mapped : (f : ℕ → List Edge) (ks : List ℕ) → sum_by length (map f ks) ≡ sum_by (λ k. length (f k)) ks
sum_mapped f [] = refl
sum_mapped f (k ∷ ks) = sum_by-cons length (f k) (map f ks) ∙ ap (λ n. length (f k) + n) (sum_mapped f ks) ∙ sym (sum_by-cons (λ k. length (f k)) k ks)

-- ---- targets

module _ (form : AcceptanceForm) (A : MarkedAutomaton) (d : HoaDocument) (f : IsDocumentOf form A d) where
  -- the written edge behind an edge
  record Written (e : Edge) : Type 0 where
    state : WrittenState
    edge : WrittenEdge
    among : Has d.states state
    has : Has state.edges edge
    target : e.target ≡ edge.target

  written : (es : List Edge) (e : Edge) → Has A.edges es → Has es e → Written e
  written es e h m =
      let (k, o, q) = map_cases (edges_at d) (range_with_len 0 A.states) es (subst (λ ess. Has ess es) f.edges h) in
      let (s, p, r) = flat_map_cases state_edges (filter (λ (x : WrittenState). x.number == k) d.states) e (subst (λ xs. Has xs e) q m) in
      let (w, t, u) = flat_map_cases (cube_edges s.sets) s.edges e r in
      let (c, v, i) = map_cases (λ (c : Cube). record { cube = c; target = w.target; marks = set_of nat_cmp (unwrap_or s.sets [] ++ unwrap_or w.sets []) }) (label_cubes w.label) e u in
      record { state = s; edge = w; among = (filter_cases (λ (x : WrittenState). x.number == k) d.states s p).0; has = t; target = ap (λ (x : Edge). x.target) i }

  written_inside : (s : WrittenState) (w : WrittenEdge) → Has d.states s → Has s.edges w → w.target < A.states
  written_inside s w h m =
      let inside = (all_Decides (is_state_inside A) d.states).0 f.inside s h in
      let own = (all_Decides (is_edge_inside A) s.edges).0 (right_true (nat_lt s.number A.states && are_sets A s.sets) _ inside) w m in
      ltb-true w.target A.states (right_true (is_grouped w.label && has_names_below (length A.names) w.label) _ (left_true _ _ own))

  target_inside : (es : List Edge) (e : Edge) → Has A.edges es → Has es e → e.target < A.states
  target_inside es e h m =
      let b = written es e h m in
      subst (λ n. n < A.states) (sym b.target) (written_inside b.state b.edge b.among b.has)

-- ---- all

pub read_marked : (text : List ℕ) (A : MarkedAutomaton) → HoaReadsWithin stated_limits stated_form text A → IsMarked A
read_marked text A r =
    let d = r.document in
    let f = r.describes in
    let w = r.within in
    let proper = document_proper stated_form A d f in
    record {
      counted = ap length f.edges ∙ length-map-range_with_len (edges_at d) 0 A.states;
      few_states = w.states;
      begins = f.begins;
      few_names = w.names;
      few_sets = f.few_sets;
      propositions = f.propositions;
      differ = f.differ;
      within = All-from_has (λ es. All (IsEdgeWithin (length A.names) A.states A.sets) es) A.edges (λ es h. All-from_has (IsEdgeWithin (length A.names) A.states A.sets) es (λ e m. record {
        cube = All-from_has (λ l. l.proposition < length A.names) e.cube (λ l o. proper.propositions es e h m l o);
        target = target_inside stated_form A d f es e h m;
        marks = All-from_has (λ k. k < A.sets) e.marks (λ k o. proper.marks es e h m k o);
      }));
      few_edges =
          let same = ap (sum_by length) f.edges ∙ sum_mapped (edges_at d) (range_with_len 0 A.states) in
          let count = edges_counted d.states 0 A.states in
          (omega (arith, same, count, w.edges));
    }
