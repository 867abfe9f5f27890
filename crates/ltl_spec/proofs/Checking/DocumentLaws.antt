-- An automaton that was read has its numbers below their counts.
use Rattle.std.proofs.Common.{◌≡◌, ℕ, ◌<◌, true, false, ◌&&◌, inl, inr, List, [], ◌++◌, length, sym, subst, Option}
use Rattle.std.specs.Prelude.{flat_map, filter_map, filter, unwrap_or, nat_lt, ◌==◌}
use Rattle.std.specs.List.{range_with_len}
use Rattle.std.specs.Ordering.{nat_cmp}
use Rattle.std.proofs.lemmas.Bool.{ltb-true}
use Rattle.ltl_spec.specs.Collections.Sets.{Has, set_of}
use Rattle.ltl_spec.specs.Transitions.Cubes.{Literal, Cube, join_cubes}
use Rattle.ltl_spec.specs.NormalForms.Normal.{Normal, Top, Bottom, Leaf, Next, And, Or, Until, Release}
use Rattle.ltl_spec.specs.Automata.Automaton.{Edge}
use Rattle.ltl_spec.specs.Hoa.HoaLabel.{Label, ConstantLabel, NumberLabel, NotLabel, BracketLabel, AndLabel, OrLabel, is_grouped, has_names_below, label_formula, label_normal, cubes, label_cubes}
use Rattle.ltl_spec.specs.Hoa.HoaReading.{AcceptanceForm, WrittenEdge, WrittenState, HoaDocument, MarkedAutomaton, cube_edges, state_edges, edges_at, are_sets, is_edge_inside, is_state_inside, IsDocumentOf}
use Rattle.ltl_spec.specs.Checking.Bounds.{HasPropositionsBelow, IsProper}
use Rattle.ltl_spec.proofs.Collections.SetLaws.{append_cases, set_of_cases, union_cases, filter_cases}
use Rattle.ltl_spec.proofs.Collections.MemberLaws.{map_cases, flat_map_cases, filter_map_cases, all_Decides}
use Rattle.ltl_spec.proofs.Collections.Orders.{nat_linear, literal_linear, cube_linear}
use Rattle.ltl_spec.proofs.Checking.BelowLaws.{HasLeavesBelow, core_below}
use Rattle.ltl_spec.proofs.Collections.CaseLaws.{left_true, right_true}
use Rattle.ltl_spec.proofs.Transitions.CubeLaws.{join_cubes_is}

module _ (n : ℕ) where
  -- a label's propositions are below n
  label_below : (a : Label) → has_names_below n a ≡ true → HasPropositionsBelow n (label_formula a)
  label_below (ConstantLabel b) e = tt
  label_below (NumberLabel i) e = ltb-true i n e
  label_below (NotLabel a) e = label_below a e
  label_below (BracketLabel a) e = label_below a e
  label_below (AndLabel a b) e = (label_below a (left_true _ _ e), label_below b (right_true (has_names_below n a) _ e))
  label_below (OrLabel a b) e = (label_below a (left_true _ _ e), label_below b (right_true (has_names_below n a) _ e))

  -- so are those of its cubes
  cubes_below : (N : Normal) → HasLeavesBelow n N → (c : Cube) → Has (cubes N) c → (l : Literal) → Has c l → l.proposition < n
  cubes_below Top h c m l k = elim m [ inl e ↦ absurd (subst (λ x. Has x l) e k) | inr z ↦ absurd z ]
  cubes_below Bottom h c m l k = absurd m
  cubes_below (Leaf p) h c m l k = elim m [ inl e ↦ elim (subst (λ x. Has x l) e k) [ inl q ↦ subst (λ (x : Literal). x.proposition < n) (sym q) h | inr z ↦ absurd z ] | inr z ↦ absurd z ]
  cubes_below (Next a) h c m l k = absurd m
  cubes_below (And a b) h c m l k =
      let (x, o, p) = flat_map_cases (λ d. filter_map (join_cubes d) (cubes b)) (cubes a) c (set_of_cases cube_linear (flat_map (λ d. filter_map (join_cubes d) (cubes b)) (cubes a)) c m) in
      let (y, q, e) = filter_map_cases (join_cubes x) (cubes b) c p in
      elim (union_cases literal_linear x y l (subst (λ d. Has d l) (join_cubes_is x y c e) k)) [ inl r ↦ cubes_below a h.0 x o l r | inr r ↦ cubes_below b h.1 y q l r ]
  cubes_below (Or a b) h c m l k = elim (union_cases cube_linear (cubes a) (cubes b) c m) [ inl o ↦ cubes_below a h.0 c o l k | inr o ↦ cubes_below b h.1 c o l k ]
  cubes_below (Until a b) h c m l k = absurd m
  cubes_below (Release a b) h c m l k = absurd m

  label_cubes_below : (a : Label) → has_names_below n a ≡ true → (c : Cube) → Has (label_cubes a) c → (l : Literal) → Has c l → l.proposition < n
  label_cubes_below a e = cubes_below (label_normal a) (core_below n (label_formula a) false false (label_below a e))

module _ (form : AcceptanceForm) (A : MarkedAutomaton) (d : HoaDocument) (describes : IsDocumentOf form A d) where
  -- the state, the written edge and the cube behind an edge
  record Behind (e : Edge) : Type 0 where
    state : WrittenState
    edge : WrittenEdge
    cube : Cube
    among : Has d.states state
    has : Has state.edges edge
    labels : Has (label_cubes edge.label) cube
    is : e ≡ record { cube = cube; target = edge.target; marks = set_of nat_cmp (unwrap_or state.sets [] ++ unwrap_or edge.sets []) }

  behind : (es : List Edge) (e : Edge) → Has A.edges es → Has es e → Behind e
  behind es e h m =
      let (k, o, q) = map_cases (edges_at d) (range_with_len 0 A.states) es (subst (λ ess. Has ess es) describes.edges h) in
      let (s, p, r) = flat_map_cases state_edges (filter (λ (x : WrittenState). x.number == k) d.states) e (subst (λ xs. Has xs e) q m) in
      let (w, t, u) = flat_map_cases (cube_edges s.sets) s.edges e r in
      let (c, v, i) = map_cases (λ (c : Cube). record { cube = c; target = w.target; marks = set_of nat_cmp (unwrap_or s.sets [] ++ unwrap_or w.sets []) }) (label_cubes w.label) e u in
      record { state = s; edge = w; cube = c; among = (filter_cases (λ (x : WrittenState). x.number == k) d.states s p).0; has = t; labels = v; is = i }

  -- what the document says of it
  state_inside : (s : WrittenState) → Has d.states s → is_state_inside A s ≡ true
  state_inside s h = (all_Decides (is_state_inside A) d.states).0 describes.inside s h

  edge_inside : (s : WrittenState) (w : WrittenEdge) → Has d.states s → Has s.edges w → is_edge_inside A w ≡ true
  edge_inside s w h m = (all_Decides (is_edge_inside A) s.edges).0 (right_true (nat_lt s.number A.states && are_sets A s.sets) _ (state_inside s h)) w m

  sets_inside : (sets : Option (List ℕ)) → are_sets A sets ≡ true → (k : ℕ) → Has (unwrap_or sets []) k → k < A.sets
  sets_inside sets e k h = ltb-true k A.sets ((all_Decides (λ j. nat_lt j A.sets) (unwrap_or sets [])).0 e k h)

  pub document_proper : IsProper A
  document_proper = record {
    differ = describes.differ;
    marks = λ es e h m k o.
        let b = behind es e h m in
        let inside = state_inside b.state b.among in
        let own = edge_inside b.state b.edge b.among b.has in
        let here = set_of_cases nat_linear (unwrap_or b.state.sets [] ++ unwrap_or b.edge.sets []) k (subst (λ (x : Edge). Has x.marks k) b.is o) in
        elim (append_cases (unwrap_or b.state.sets []) (unwrap_or b.edge.sets []) k here) [
          | inl p ↦ sets_inside b.state.sets (right_true (nat_lt b.state.number A.states) _ (left_true _ _ inside)) k p
          | inr p ↦ sets_inside b.edge.sets (right_true (is_grouped b.edge.label && has_names_below (length A.names) b.edge.label && nat_lt b.edge.target A.states) _ own) k p
        ];
    propositions = λ es e h m l o.
        let b = behind es e h m in
        let own = edge_inside b.state b.edge b.among b.has in
        let names = right_true (is_grouped b.edge.label) _ (left_true (is_grouped b.edge.label && has_names_below (length A.names) b.edge.label) _ (left_true (is_grouped b.edge.label && has_names_below (length A.names) b.edge.label && nat_lt b.edge.target A.states) _ own)) in
        label_cubes_below (length A.names) b.edge.label names b.cube b.labels l (subst (λ (x : Edge). Has x.cube l) b.is o);
  }
