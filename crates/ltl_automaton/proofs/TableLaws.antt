-- Labels that are numbered as they come, and in their order: what their numbers stand for.
use Rattle.std.proofs.Common.{◌≡◌, ℕ, zero, suc, ◌+◌, ◌<◌, Bool, true, cond, inl, inr, List, [], ◌∷◌, ◌++◌, length, map, refl, sym, ◌∙◌, ap, subst, arith, length-append, Some, None}
use Rattle.std.specs.Prelude.{nat_eq, slice_get, slice_index_or, slice_set, All, nat_lt, ◌≢◌, ◌≤◌}
use Rattle.std.specs.List.{position}
use Rattle.std.specs.Bool.{Decides}
use Rattle.std.specs.declared.cmp.Ordering.{Ordering}
use Rattle.std.specs.declared.cmp.Ordering.TheVariants.{Less, Greater}
use Rattle.std.specs.Ordering.{nat_cmp}
use Rattle.std.specs.Cmp.Lexicographic.{slice_cmp, pointwise, bytes_decides}
use Rattle.std.proofs.lemmas.Option.{slice_get_within}
use Rattle.std.proofs.lemmas.List.{get_or-set_other, get_or-set_same, length-set, same_lists, map-append, get_or_past, append-nil, append_assoc}
use Rattle.std.proofs.lemmas.List.Elements.{All-push, All-weaker, All-get_or, All-append, All-cons, All-nil}
use Rattle.std.proofs.lemmas.Bool.{cases_lt}
use Rattle.std.proofs.Math.ListN.{get_or-map}
use Rattle.ltl_spec.specs.Collections.Sets.{Has, IsRising, IsLinearOrder, set_of}
use Rattle.ltl_spec.specs.Collections.Lists.{HasNoRepeats, with_new, place_of}
use Rattle.ltl_spec.specs.Transitions.Cubes.{Cube, cube_cmp}
use Rattle.ltl_spec.specs.Automata.Automaton.{Automaton, Edge, State, state_at}
use Rattle.ltl_spec.proofs.Automata.ListingLaws.{with_new_behind}
use Rattle.ltl_spec.proofs.Collections.FoundLaws.{index_there, map_equal, map_same}
use Rattle.ltl_spec.proofs.Collections.ListLaws.{HasNoRepeats-with_new, Has-at, All-at_has, index_append, place_below, slice_get_has}
use Rattle.ltl_spec.proofs.Collections.MemberLaws.{at_map, map_length}
use Rattle.ltl_spec.proofs.Collections.Orders.{cube_linear, row_set_linear}
use Rattle.ltl_spec.proofs.Collections.ProductLists.{rising_once}
use Rattle.ltl_spec.proofs.Collections.SetLaws.{all_at, append_left, Has-set_of, IsRising-set_of, set_of_cases}
use Rattle.ltl_sets.specs.CubeEq.{same_cube, cube_Decides}
use Rattle.ltl_automaton.specs.SharedView.{with_state}
use Rattle.ltl_automaton.specs.declared.coded_edge.CodedEdge as numbered
use Rattle.ltl_automaton.specs.declared.labels.Labels as slices
use Rattle.ltl_automaton.proofs.EdgeLaws.{map_pushed}
use Rattle.ltl_automaton.proofs.SharedLaws.{got_once}
use Rattle.ltl_automaton.specs.CodedEdges.{coded_edge_of, labelled_edge_of, tables_of}
use Rattle.ltl_automaton.specs.Labels.{Tables, AreTables, labelled_edge, labelled_state, labelled, IsCoded, AreCoded}
use Rattle.ltl_automaton.specs.LabelTables.{AreOnce, HavePlaces, AreMade, AreRanks, Extends}

-- ---- the labels of states
-- the state of a number, with its labels
pub state_at_labelled : (t : Tables) (A : Automaton) (s : ℕ) → state_at (labelled t A) s ≡ labelled_state t (state_at A s)
state_at_labelled t A s = get_or-map (labelled_state t) A.states s (record { accepting = true; edges = [] })

-- there are as many states
pub labelled_length : (t : Tables) (A : Automaton) → length (labelled t A).states ≡ length A.states
labelled_length t A = map_length (labelled_state t) A.states

-- the labels are those of the edges that are seen
pub labels_seen : (l : slices.Labels) (es : List numbered.CodedEdge) → map (labelled_edge_of l) es ≡ map (labelled_edge (tables_of l)) (map coded_edge_of es)
labels_seen l es = sym (map_same coded_edge_of (labelled_edge (tables_of l)) es)

-- the labels of the edges of a state
pub state_labels : (l : slices.Labels) (t : Tables) (A : Automaton) (s : ℕ) (es : List numbered.CodedEdge) → tables_of l ≡ t → map coded_edge_of es ≡ (state_at A s).edges → map (labelled_edge_of l) es ≡ (state_at (labelled t A) s).edges
state_labels l t A s es q e =
    labels_seen l es ∙ (λ i. map (labelled_edge (q i)) (map coded_edge_of es)) ∙ ap (map (labelled_edge t)) e ∙ ap (λ (r : State). r.edges) (sym (state_at_labelled t A s))

-- what holds of all states, and where there is none, holds at each number
pub states_at : (A : Automaton) (P : State → Type 0) (i : ℕ) → P (record { accepting = true; edges = [] }) → All P A.states → P (state_at A i)
states_at A P i p a =
    let none : State = record { accepting = true; edges = [] } in
    elim (cases_lt i (length A.states)) [
      | inl l ↦ All-get_or P A.states i none l a
      | inr l ↦ subst P (sym (get_or_past A.states i none l)) p
    ]

-- one more state, with its labels
pub labelled_pushed : (t : Tables) (B C : Automaton) (accepting : Bool) (es : List Edge) → C ≡ with_state B accepting es → labelled t C ≡ with_state (labelled t B) accepting (map (labelled_edge t) es)
labelled_pushed t B C accepting es e =
    ap (labelled t) e
    ∙ (λ i. let X : Automaton = record { sets = B.sets; states = map-append (labelled_state t) B.states (record { accepting = accepting; edges = es } ∷ []) i } in X)

-- is coded, where its edges are
pub coded_pushed : (t : Tables) (B C : Automaton) (accepting : Bool) (es : List Edge) → C ≡ with_state B accepting es → AreCoded t B → All (IsCoded t) es → AreCoded t C
coded_pushed t B C accepting es e b c =
    let P : State → Type 0 = λ s. All (IsCoded t) s.edges in
    subst (AreCoded t) (sym e) (All-append P B.states (record { accepting = accepting; edges = es } ∷ []) b (All-cons P (record { accepting = accepting; edges = es }) [] c (All-nil P)))

-- ---- different values
-- what is there stands at a place
found_at : {K : Type 0} (xs : List K) (x : K) → Has xs x → (k : ℕ) × (slice_get xs k ≡ Some x)
found_at [] x h = absurd h
found_at (y ∷ ys) x (inl e) = (zero, ap (λ z. Some z) (sym e))
found_at (y ∷ ys) x (inr h) = let w = found_at ys x h in (suc w.0, w.1)

module _ {K : Type 0} (same : K → K → Bool) (decides : (x y : K) → Decides (same x y) (x ≡ y)) where
  -- what is there is found
  pub not_missed : (x : K) (xs : List K) → Has xs x → None ≢ position (same x) xs
  not_missed x xs h e =
      let l : place_of same x xs < length xs = place_below same decides x xs h in
      let there : nat_lt (place_of same x xs) (length xs) ≡ true = grind arith in
      let found : position (same x) xs ≡ Some (place_of same x xs) = ap (λ b. cond b (Some (place_of same x xs)) None) there in
      let q : None ≡ Some (place_of same x xs) = e ∙ found in
      cc

-- ---- labels that are numbered as they come
-- each is still there once
pub once_next : (t u : Tables) (cube : Cube) (marks : List ℕ) → AreOnce t → u.cubes ≡ with_new same_cube t.cubes cube → u.marks ≡ with_new (pointwise nat_eq) t.marks marks → AreOnce u
once_next t u cube marks h c m =
    (subst HasNoRepeats (sym c) (HasNoRepeats-with_new same_cube cube_Decides t.cubes cube h.0), subst HasNoRepeats (sym m) (HasNoRepeats-with_new (pointwise nat_eq) bytes_decides t.marks marks h.1))

-- with more labels behind
pub extends_none : (t : Tables) → Extends t t
extends_none t = record { cubes = ([], sym (append-nil t.cubes)); marks = ([], sym (append-nil t.marks)) }

pub extends_on : (t u v : Tables) → Extends t u → Extends u v → Extends t v
extends_on t u v a b = record {
  cubes = (a.cubes.0 ++ b.cubes.0, b.cubes.1 ∙ ap (λ xs. xs ++ b.cubes.0) a.cubes.1 ∙ append_assoc t.cubes a.cubes.0 b.cubes.0);
  marks = (a.marks.0 ++ b.marks.0, b.marks.1 ∙ ap (λ xs. xs ++ b.marks.0) a.marks.1 ∙ append_assoc t.marks a.marks.0 b.marks.0);
}

-- one label more, of each kind
pub extends_next : (same_marks : List ℕ → List ℕ → Bool) (t u : Tables) (c : Cube) (m : List ℕ) → u.cubes ≡ with_new same_cube t.cubes c → u.marks ≡ with_new same_marks t.marks m → Extends t u
extends_next same_marks t u c m e f =
    let x = with_new_behind same_cube t.cubes c in
    let y = with_new_behind same_marks t.marks m in
    record { cubes = (x.0, e ∙ x.1); marks = (y.0, f ∙ y.1) }

-- the label stands at its number
pub met_there : {K : Type 0} (same : K → K → Bool) → ((x y : K) → Decides (same x y) (x ≡ y)) → (keys : List K) (x : K) (i : ℕ) → (k : K) × (slice_get keys i ≡ Some k) × (same x k ≡ true) → slice_get keys i ≡ Some x
met_there same decides keys x i w = w.1 ∙ ap Some (sym ((decides x w.0).0 w.2))

module _ (t u : Tables) (x : Extends t u) where
  -- an edge keeps its labels
  labels_stay : (e : Edge) → IsCoded t e → labelled_edge u e ≡ labelled_edge t e
  labels_stay e c =
      let cube : slice_index_or u.cubes c.cube [] ≡ slice_index_or t.cubes c.cube [] = ap (λ xs. slice_index_or xs c.cube []) x.cubes.1 ∙ index_append t.cubes x.cubes.0 c.cube [] c.cube_within in
      let marks : slice_index_or u.marks c.marks [] ≡ slice_index_or t.marks c.marks [] = ap (λ xs. slice_index_or xs c.marks []) x.marks.1 ∙ index_append t.marks x.marks.0 c.marks [] c.marks_within in
      ap (labelled_edge u) c.is ∙ (λ i. let f : Edge = record { cube = cube i; target = e.target; marks = marks i } in f) ∙ ap (labelled_edge t) (sym c.is)

  coded_still : (e : Edge) → IsCoded t e → IsCoded u e
  coded_still e c = record {
    cube = c.cube;
    marks = c.marks;
    is = c.is;
    cube_within = longer t.cubes u.cubes c.cube x.cubes c.cube_within;
    marks_within = longer t.marks u.marks c.marks x.marks c.marks_within;
  }
    where
      longer : {K : Type 0} (xs ys : List K) (n : ℕ) → (more : List K) × (ys ≡ xs ++ more) → n < length xs → n < length ys
      longer xs ys n w l = let long = ap length w.1 ∙ length-append xs w.0 in omega arith

  edges_stay : (es : List Edge) → All (IsCoded t) es → map (labelled_edge u) es ≡ map (labelled_edge t) es
  edges_stay es c = map_equal (labelled_edge u) (labelled_edge t) es (λ e h. labels_stay e (All-at_has (IsCoded t) es c e h))

  edges_coded : (es : List Edge) → All (IsCoded t) es → All (IsCoded u) es
  edges_coded es c = All-weaker (IsCoded t) (IsCoded u) coded_still es c

  -- so do the edges that were made, and those of all states
  pub made_stay : (made : List numbered.CodedEdge) (es : List Edge) → AreMade t made es → AreMade u made es
  made_stay made es w = record { edges = edges_stay (map coded_edge_of made) w.coded ∙ w.edges; coded = edges_coded (map coded_edge_of made) w.coded }

  pub states_stay : (A : Automaton) → AreCoded t A → labelled u A ≡ labelled t A
  states_stay A a =
      let P : State → Type 0 = λ s. All (IsCoded t) s.edges in
      let same = map_equal (labelled_state u) (labelled_state t) A.states (λ s h.
      let es = edges_stay s.edges (All-at_has P A.states a s h) in
      λ i. let r : State = record { accepting = s.accepting; edges = es i } in r) in
      λ i. let X : Automaton = record { sets = A.sets; states = same i } in X

  pub states_coded : (A : Automaton) → AreCoded t A → AreCoded u A
  states_coded A a = All-weaker (λ (s : State). All (IsCoded t) s.edges) (λ (s : State). All (IsCoded u) s.edges) (λ s. edges_coded s.edges) A.states a

  -- one more state
  pub built_next : (A B : Automaton) (accepting : Bool) (es xs : List Edge) → AreCoded t A → B ≡ with_state A accepting es → map (labelled_edge u) es ≡ xs → labelled u B ≡ with_state (labelled t A) accepting xs
  built_next A B accepting es xs a e f = labelled_pushed u A B accepting es e ∙ (λ i. with_state (states_stay A a i) accepting (f i))

  pub built_coded : (A B : Automaton) (accepting : Bool) (es : List Edge) → AreCoded t A → B ≡ with_state A accepting es → All (IsCoded u) es → AreCoded u B
  built_coded A B accepting es a e c = coded_pushed u A B accepting es e (states_coded A a) c

  -- no marks are still there
  pub none_still : Has t.marks [] → Has u.marks []
  none_still h = subst (λ ms. Has ms []) (sym x.marks.1) (append_left t.marks x.marks.0 [] h)

-- no edge yet
pub none_made : (t : Tables) (made : List numbered.CodedEdge) → made ≡ [] → AreMade t made []
none_made t made e = subst (λ (xs : List numbered.CodedEdge). AreMade t xs []) (sym e) (record { edges = refl; coded = All-nil (IsCoded t) })

-- one more edge with numbers
pub coded_next : (t : Tables) (made more_made : List numbered.CodedEdge) (x : numbered.CodedEdge) (es more_es : List Edge) (e : Edge) → AreMade t made es → slice_get t.cubes x.cube ≡ Some e.cube → slice_get t.marks x.marks ≡ Some e.marks
    → x.target ≡ e.target → more_made ≡ made ++ x ∷ [] → more_es ≡ es ++ e ∷ [] → AreMade t more_made more_es
coded_next t made more_made x es more_es e w c m g p q =
    let cube = index_there t.cubes x.cube e.cube [] c in
    let marks = index_there t.marks x.marks e.marks [] m in
    let pushed : map coded_edge_of more_made ≡ map coded_edge_of made ++ coded_edge_of x ∷ [] = map_pushed coded_edge_of made more_made x p in
    let same : labelled_edge t (coded_edge_of x) ≡ e = λ i. let f : Edge = record { cube = cube.1 i; target = g i; marks = marks.1 i } in f in
    record {
      edges = map_pushed (labelled_edge t) (map coded_edge_of made) (map coded_edge_of more_made) (coded_edge_of x) pushed ∙ (λ i. w.edges i ++ same i ∷ []) ∙ sym q;
      coded = subst (All (IsCoded t)) (sym pushed)
          (All-push (IsCoded t) (map coded_edge_of made) (coded_edge_of x) w.coded (record { cube = x.cube; marks = x.marks; is = refl; cube_within = cube.0; marks_within = marks.0 }));
    }

-- ---- the tables
-- no marks come first
none_first : (ms : List (List ℕ)) → IsRising (slice_cmp nat_cmp) ms → Has ms [] → slice_get ms 0 ≡ Some []
none_first [] r h = absurd h
none_first ([] ∷ ms) r h = refl
none_first ((n ∷ m) ∷ ms) r (inl e) = absurd (cc)
none_first ((n ∷ m) ∷ ms) r (inr h) = let d : Greater ≡ Less = all_at (λ y. slice_cmp nat_cmp (n ∷ m) y ≡ Less) ms [] r.0 h in absurd (cc)

-- the labels that came, in their order
pub ranked_tables : (t u : Tables) → u.cubes ≡ set_of cube_cmp t.cubes → u.marks ≡ set_of (slice_cmp nat_cmp) t.marks → Has t.marks [] → AreTables u
ranked_tables t u c m h =
    let rising : IsRising (slice_cmp nat_cmp) u.marks = subst (IsRising (slice_cmp nat_cmp)) (sym m) (IsRising-set_of row_set_linear t.marks) in
    record {
      cubes = subst (IsRising cube_cmp) (sym c) (IsRising-set_of cube_linear t.cubes);
      marks = rising;
      none = none_first u.marks rising (subst (λ xs. Has xs []) (sym m) (Has-set_of row_set_linear t.marks [] h));
    }

-- a value that came is among the sorted ones
pub ranked_has : {K : Type 0} {R : K → K → Ordering} → IsLinearOrder R → (values sorted : List K) (i : ℕ) (x : K) → sorted ≡ set_of R values → slice_get values i ≡ Some x → Has sorted x
ranked_has o values sorted i x e h =
    let w = index_there values i x x h in
    subst (λ xs. Has xs x) (sym e) (Has-set_of o values x (subst (Has values) w.1 (Has-at values i x w.0)))

-- a sorted value is one that came
pub ranked_there : {K : Type 0} {R : K → K → Ordering} → IsLinearOrder R → (values sorted : List K) (k : ℕ) (x : K) → sorted ≡ set_of R values → slice_get sorted k ≡ Some x → Has values x
ranked_there o values sorted k x e h = set_of_cases o values x (subst (λ xs. Has xs x) e (slice_get_has sorted k x h))

-- one more place
pub places_next : {K : Type 0} {R : K → K → Ordering} → IsLinearOrder R → (values sorted : List K) (ranks more_ranks : List ℕ) (n number r : ℕ) (x : K) → HasNoRepeats values → sorted ≡ set_of R values → HavePlaces values sorted ranks n
    → slice_get sorted n ≡ Some x → slice_get values number ≡ Some x → r ≡ n → more_ranks ≡ slice_set ranks number r → HavePlaces values sorted more_ranks (n + 1)
places_next {K = K} {R = R} o values sorted ranks more_ranks n number r x once is w s v q p =
    let inside : number < length ranks = subst (λ m. number < m) (sym w.long) (slice_get_within values number x v) in
    let rising : HasNoRepeats sorted = rising_once o sorted (subst (IsRising R) (sym is) (IsRising-set_of o values)) in
    let same : (k i : ℕ) (y : K) → k ≡ n → slice_get sorted k ≡ Some y → slice_get values i ≡ Some y → slice_index_or (slice_set ranks number r) i 0 ≡ k =
    λ k i y e t u.
    let there : slice_get sorted n ≡ Some y = subst (λ j. slice_get sorted j ≡ Some y) e t in
    let here : slice_get values i ≡ Some x = u ∙ sym there ∙ s in
    let at : i ≡ number = got_once values i number x once here v in
    subst (λ j. slice_index_or (slice_set ranks number r) j 0 ≡ k) (sym at) (get_or-set_same ranks number r 0 inside ∙ q ∙ sym e) in
    let other : (k i : ℕ) (y : K) → k < n → slice_get sorted k ≡ Some y → slice_get values i ≡ Some y → slice_index_or (slice_set ranks number r) i 0 ≡ k =
    λ k i y l t u.
    let apart : i ≢ number = λ at.
    let here : slice_get values number ≡ Some y = subst (λ j. slice_get values j ≡ Some y) at u in
    let both : k ≡ n = got_once sorted k n x rising (t ∙ sym here ∙ v) s in
    omega (arith, l, both) in
    get_or-set_other ranks number i r 0 apart ∙ w.there k i y l t u in
    record {
      long = ap length p ∙ length-set ranks number r ∙ w.long;
      there = λ k i y l t u. ap (λ rs. slice_index_or rs i 0) p ∙ elim (cases_lt k n) [ inl m ↦ other k i y m t u | inr m ↦ same k i y (omega (arith, l, m)) t u ];
    }

-- a list has an element at each place
value_at : {K : Type 0} (xs : List K) (i : ℕ) → i < length xs → (x : K) × (slice_get xs i ≡ Some x)
value_at [] i l = absurd (omega (arith, l))
value_at (x ∷ xs) zero l = (x, refl)
value_at (x ∷ xs) (suc i) l = value_at xs i (omega (arith, l))

-- behind the last one
pub places_done : {K : Type 0} {R : K → K → Ordering} → IsLinearOrder R → (values sorted : List K) (ranks : List ℕ) (n : ℕ) → sorted ≡ set_of R values → HavePlaces values sorted ranks n → length sorted ≤ n → AreRanks values sorted ranks
places_done o values sorted ranks n is w l =
    same_lists (map (slice_get sorted) ranks) (map Some values) (map_length (slice_get sorted) ranks ∙ w.long ∙ sym (map_length Some values)) (λ i d m.
    let inside : i < length ranks = subst (λ z. i < z) (map_length (slice_get sorted) ranks) m in
    let within : i < length values = subst (λ z. i < z) w.long inside in
    let v = value_at values i within in
    let f = found_at sorted v.0 (ranked_has o values sorted i v.0 is v.1) in
    let before : f.0 < n = let k = slice_get_within sorted f.0 v.0 f.1 in omega (arith, k, l) in
    at_map (slice_get sorted) ranks i 0 d inside
    ∙ ap (slice_get sorted) (w.there f.0 i v.0 before f.1 v.1)
    ∙ f.1
    ∙ ap (λ z. Some z) (sym (index_there values i v.0 v.0 v.1).1)
    ∙ sym (at_map Some values i v.0 d within))

-- there is a place for each value, and the value stands there
pub ranks_within : {K : Type 0} (values sorted : List K) (ranks : List ℕ) (n : ℕ) → AreRanks values sorted ranks → n < length values → n < length ranks
ranks_within values sorted ranks n w l =
    let long : length ranks ≡ length values = sym (map_length (slice_get sorted) ranks) ∙ ap length w ∙ map_length Some values in
    omega arith

pub rank_there : {K : Type 0} (values sorted : List K) (ranks : List ℕ) (n r k : ℕ) (d : K) → AreRanks values sorted ranks → n < length values → r ≡ slice_index_or ranks n k → slice_get sorted r ≡ Some (slice_index_or values n d)
rank_there values sorted ranks n r k d w l e =
    ap (slice_get sorted) e
    ∙ sym (at_map (slice_get sorted) ranks n k None (ranks_within values sorted ranks n w l))
    ∙ ap (λ xs. slice_index_or xs n None) w
    ∙ at_map Some values n d None l
