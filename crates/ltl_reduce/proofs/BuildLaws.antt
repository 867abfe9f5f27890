-- An automaton that is made of edges of another one.
use Rattle.std.proofs.Common.{◌≡◌, ℕ, suc, ◌+◌, ◌-◌, ◌<◌, ◌≤◌, true, ◌⊎◌, inl, inr, List, [], ◌∷◌, ◌++◌, map, length, refl, sym, ◌∙◌, ap, subst, arith}
use Rattle.std.specs.Prelude.{slice_index_or, sum_by, All}
use Rattle.ltl_spec.specs.Collections.Sets.{Has}
use Rattle.ltl_spec.specs.Automata.Automaton.{Automaton, State, Edge, state_at}
use Rattle.std.proofs.Common.{take}
use Rattle.std.proofs.lemmas.List.Sums.{sum_by-append}
use Rattle.std.proofs.lemmas.Option.{slice_get-get_or}
use Rattle.ltl_spec.proofs.Collections.ListLaws.{All-at_has, All-from_has, Has-at}
use Rattle.ltl_spec.proofs.Collections.FoundLaws.{take_got}
use Rattle.ltl_automaton.proofs.WayLaws.{take_whole}
use Rattle.ltl_spec.proofs.Automata.ListedStates.{no_state}
use Rattle.ltl_spec.proofs.Collections.MemberLaws.{Has-map, map_cases, map_length}
use Rattle.ltl_spec.specs.Transitions.Cubes.{is_contradictory}
use Rattle.ltl_spec.proofs.Collections.SetLaws.{append_cases}
use Rattle.ltl_models.proofs.Within.{edges_within}
use Rattle.ltl_spec.specs.Tools.Limits.{stated_limits}
use Rattle.ltl_spec.specs.Collections.Sets.{IsRising}
use Rattle.std.specs.Ordering.{nat_cmp}
use Rattle.ltl_spec.specs.Transitions.Cubes.{literal_cmp}
use Rattle.std.proofs.Common.{rules}
use Rattle.std.proofs.lemmas.Option.{slice_get_within, get_or_from_slice_get}
use Rattle.std.proofs.lemmas.List.{length-append}
use Rattle.std.proofs.lemmas.List.Elements.{All-nil}
use Rattle.ltl_automaton.specs.Labels.{Tables, AreTables, AreCoded, IsCoded, coded_edge, labelled, labelled_edge, labelled_state, number_of_cube}
use Rattle.ltl_automaton.specs.SharedView.{with_state}
use Rattle.ltl_automaton.specs.CodedEdges.{coded_edge_of}
use Rattle.ltl_automaton.specs.declared.coded_edge.CodedEdge as coded
use Rattle.ltl_automaton.proofs.TableLaws.{state_at_labelled, labelled_length}
use Rattle.ltl_models.specs.GbaView.{IsEdgeWithin, IsAcceptingGba}
use Rattle.ltl_reduce.specs.Reduction.{edge_count}
use Rattle.ltl_reduce.specs.Build.{IsChosen, IsBuiltFrom}

-- the edge comes from an edge of this automaton, with numbers for the labels
pub record IsFrom (C : Automaton) (count : ℕ) (f : Edge) : Type 0 where
  pub state : ℕ
  pub edge : Edge
  pub there : Has (state_at C state).edges edge
  pub marks : ℕ
  pub is : f ≡ coded_edge (number_of_cube edge.cube) f.target marks
  pub kept : (marks ≡ 0) ⊎ (marks ≡ slice_index_or edge.marks 0 0)
  pub inside : f.target < count

pub chosen_is : (edges : List coded.CodedEdge) (place count : ℕ) (d x f : coded.CodedEdge) → place < length edges → x ≡ slice_index_or edges place d → f.cube ≡ x.cube → (f.marks ≡ 0) ⊎ (f.marks ≡ x.marks) → f.target < count → IsChosen edges count f
chosen_is edges place count d x f l is cube marks target = record { edge = x; there = subst (λ y. Has edges y) (sym is) (Has-at edges place d l); cube = cube; marks = marks; inside = target }

pub chosen_next : (edges : List coded.CodedEdge) (count : ℕ) (xs ys : List coded.CodedEdge) (x : coded.CodedEdge) → All (IsChosen edges count) xs → IsChosen edges count x → ys ≡ xs ++ x ∷ [] → All (IsChosen edges count) ys
chosen_next edges count xs ys x h k is = All-from_has (IsChosen edges count) ys (λ y p. elim (append_cases xs (x ∷ []) y (subst (λ zs. Has zs y) is p)) [ inl i ↦ All-at_has (IsChosen edges count) xs h y i | inr j ↦ elim j [ inl e ↦ subst (IsChosen edges count) (sym e) k | inr n ↦ absurd n ] ])

-- the edges of the first states, counted
abbrev pub count_to : Automaton → ℕ → ℕ
count_to A k = sum_by (λ (s : State). length s.edges) (take k A.states)

pub count_next : (A : Automaton) (k total more new : ℕ) (es : List Edge) → k < length A.states → total ≤ count_to A k → es ≡ (state_at A k).edges → more ≡ length es → new ≤ total + more → new ≤ count_to A (k + 1)
count_next A k total more new es l h is long fits =
    let one : k + 1 ≡ suc k = omega arith in
    let sums : count_to A (k + 1) ≡ count_to A k + (0 + length (state_at A k).edges) = ap (λ xs. sum_by (λ (s : State). length s.edges) xs) (ap (λ n. take n A.states) one ∙ take_got A.states k (state_at A k) (slice_get-get_or A.states k no_state l)) ∙ sum_by-append (λ (s : State). length s.edges) (take k A.states) (state_at A k ∷ []) in
    let same : length es ≡ length (state_at A k).edges = ap length is in
    omega arith

pub count_whole : (A : Automaton) (k total : ℕ) → length A.states ≤ k → total ≤ count_to A k → total ≤ edge_count A
count_whole A k total l h = subst (λ xs. total ≤ sum_by (λ (s : State). length s.edges) xs) (take_whole k A.states l) h

-- chosen edges of a state come from it
pub chosen_from : (C : Automaton) (s count : ℕ) (edges chosen : List coded.CodedEdge) → map coded_edge_of edges ≡ (state_at C s).edges → All (IsChosen edges count) chosen → All (IsFrom C count) (map coded_edge_of chosen)
chosen_from C s count edges chosen e all = All-from_has (IsFrom C count) (map coded_edge_of chosen) (λ f h.
    let (x, k, q) = map_cases coded_edge_of chosen f h in
    let c = All-at_has (IsChosen edges count) chosen all x k in
    subst (λ g. IsFrom C count g) (sym q) (record {
      state = s;
      edge = coded_edge_of c.edge;
      there = subst (λ es. Has es (coded_edge_of c.edge)) e (Has-map coded_edge_of edges c.edge c.there);
      marks = x.marks;
      is = ap (λ n. coded_edge n x.target x.marks) c.cube;
      kept = c.marks;
      inside = c.inside;
    }))

-- the automaton after so many states
pub record IsMaking (C : Automaton) (count total : ℕ) (made : Automaton) (b left : ℕ) : Type 0 where
  pub long : length made.states ≡ b
  pub sets : made.sets ≡ C.sets
  pub sum : edge_count made + left ≡ total
  pub accepting : All (λ s. s.accepting ≡ true) made.states
  pub from : All (λ s. All (IsFrom C count) s.edges) made.states

pub making_next : (C : Automaton) (count total : ℕ) (made next : Automaton) (b left n : ℕ) (xs : List coded.CodedEdge) → IsMaking C count total made b left → next ≡ with_state made true (map coded_edge_of xs) → n ≡ length xs → n ≤ left → All (IsFrom C count) (map coded_edge_of xs) → IsMaking C count total next (b + 1) (left - n)
making_next C count total made next b left n xs m is long fits all = subst (λ x. IsMaking C count total x (b + 1) (left - n)) (sym is) (record {
  long = length-append made.states (one ∷ []) ∙ ap (λ k. k + 1) m.long;
  sets = m.sets;
  sum =
      let e : edge_count (with_state made true es) ≡ edge_count made + (0 + length es) = sum_by-append (λ (s : State). length s.edges) made.states (one ∷ []) in
      let h : edge_count made + left ≡ total = m.sum in
      let k = map_length coded_edge_of xs in
      omega arith;
  accepting = both (λ (s : State). s.accepting ≡ true) m.accepting refl;
  from = both (λ (s : State). All (IsFrom C count) s.edges) m.from all;
})
  where
    es : List Edge
    es = map coded_edge_of xs

    one : State
    one = record { accepting = true; edges = es }

    both : (P : State → Type 0) → All P made.states → P one → All P (made.states ++ one ∷ [])
    both P h x = All-from_has P (made.states ++ one ∷ []) (λ s k. elim (append_cases made.states (one ∷ []) s k) [ inl i ↦ All-at_has P made.states h s i | inr j ↦ elim j [ inl e ↦ subst P (sym e) x | inr n ↦ absurd n ] ])

-- the whole automaton

module _ (t : Tables) (tables : AreTables t) (C : Automaton) (in_table : AreCoded t C) (count total left : ℕ) (made : Automaton) (m : IsMaking C count total made count left) where
  -- an edge of the made automaton comes from an edge
  from_at : (s : ℕ) (f : Edge) → Has (state_at made s).edges f → IsFrom C count f
  from_at s f h = All-at_has (IsFrom C count) (state_at made s).edges (edges_within made (IsFrom C count) s m.from) f h

  coded_at : (s : ℕ) (e : Edge) → Has (state_at C s).edges e → IsCoded t e
  coded_at s e h = All-at_has (IsCoded t) (state_at C s).edges (edges_within C (IsCoded t) s in_table) e h

  -- all edges have numbers of the tables
  pub made_coded : AreCoded t made
  made_coded = All-from_has (λ (s : State). All (IsCoded t) s.edges) made.states (λ s h. All-from_has (IsCoded t) s.edges (λ f k.
      let from = All-at_has (IsFrom C count) s.edges (All-at_has (λ (u : State). All (IsFrom C count) u.edges) made.states m.from s h) f k in
      let had = coded_at from.state from.edge from.there in
      let number : number_of_cube from.edge.cube ≡ had.cube = ap (λ (x : Edge). number_of_cube x.cube) had.is in
      let old : slice_index_or from.edge.marks 0 0 ≡ had.marks = ap (λ (x : Edge). slice_index_or x.marks 0 0) had.is in
      let first : 0 < length t.marks = slice_get_within t.marks 0 [] tables.none in
      record {
        cube = number_of_cube from.edge.cube;
        marks = from.marks;
        is = from.is;
        cube_within = subst (λ n. n < length t.cubes) (sym number) had.cube_within;
        marks_within = elim from.kept [ inl z ↦ subst (λ n. n < length t.marks) (sym z) first | inr e ↦ subst (λ n. n < length t.marks) (sym (e ∙ old)) had.marks_within ];
      }))

  -- the labels of an edge
  cube_of_from : (f : Edge) (from : IsFrom C count f) → (labelled_edge t f).cube ≡ (labelled_edge t from.edge).cube
  cube_of_from f from = ap (λ n. slice_index_or t.cubes n []) (ap (λ (x : Edge). number_of_cube x.cube) from.is)

  marks_of_from : (f : Edge) (from : IsFrom C count f) → ((labelled_edge t f).marks ≡ []) ⊎ ((labelled_edge t f).marks ≡ (labelled_edge t from.edge).marks)
  marks_of_from f from =
      let number : slice_index_or f.marks 0 0 ≡ from.marks = ap (λ (x : Edge). slice_index_or x.marks 0 0) from.is in
      elim from.kept [
        | inl z ↦ inl (ap (λ n. slice_index_or t.marks n []) (number ∙ z) ∙ get_or_from_slice_get t.marks 0 [] [] tables.none)
        | inr e ↦ inr (ap (λ n. slice_index_or t.marks n []) (number ∙ e))
      ]

  -- the edge behind an edge, with its labels
  there_labelled : (f : Edge) (from : IsFrom C count f) → Has (state_at (labelled t C) from.state).edges (labelled_edge t from.edge)
  there_labelled f from = subst (λ (s : State). Has s.edges (labelled_edge t from.edge)) (sym (state_at_labelled t C from.state)) (Has-map (labelled_edge t) (state_at C from.state).edges from.edge from.there)

  edge_within : (n : ℕ) (f : Edge) (from : IsFrom C count f) → IsEdgeWithin n C.sets (labelled_edge t from.edge) → IsEdgeWithin count C.sets (labelled_edge t f)
  edge_within n f from w = record {
    target = from.inside;
    marks = elim (marks_of_from f from) [ inl e ↦ subst (All (λ k. k < C.sets)) (sym e) (All-nil (λ k. k < C.sets)) | inr e ↦ subst (All (λ k. k < C.sets)) (sym e) w.marks ];
    rising = record {
      cube = subst (IsRising literal_cmp) (sym (cube_of_from f from)) w.rising.cube;
      marks = elim (marks_of_from f from) [ inl e ↦ subst (IsRising nat_cmp) (sym e) nothing | inr e ↦ subst (IsRising nat_cmp) (sym e) w.rising.marks ];
    };
    consistent = ap is_contradictory (cube_of_from f from) ∙ w.consistent;
  }
    where
      nothing : IsRising nat_cmp []
      nothing = search rules

  count_labelled : (X : Automaton) → edge_count (labelled t X) ≡ edge_count X
  count_labelled X = sums X.states
    where
      sums : (xs : List State) → sum_by (λ (s : State). length s.edges) (map (labelled_state t) xs) ≡ sum_by (λ (s : State). length s.edges) xs
      sums [] = refl
      sums (x ∷ xs) =
          let size : State → ℕ = λ s. length s.edges in
          let a = map_length (labelled_edge t) x.edges in
          let b = sums xs in
          let c : sum_by size (map (labelled_state t) (x ∷ xs)) ≡ (0 + length (map (labelled_edge t) x.edges)) + sum_by size (map (labelled_state t) xs) = sum_by-append size (labelled_state t x ∷ []) (map (labelled_state t) xs) in
          let d : sum_by size (x ∷ xs) ≡ (0 + length x.edges) + sum_by size xs = sum_by-append size (x ∷ []) xs in
          omega arith

  pub made_gba : IsAcceptingGba (labelled t C) → count ≤ length (labelled t C).states → 0 < count → total ≤ edge_count (labelled t C) → IsAcceptingGba (labelled t made)
  made_gba g few some fits = record {
    inside = record {
      some = subst (λ n. 0 < n) (sym long) some;
      few_states = let a = g.inside.few_states in let l = long in omega (arith, few, l, a);
      few_edges = let a = g.inside.few_edges in let b : edge_count made + left ≡ total = m.sum in let c = count_labelled made in omega (arith, a, b, c, fits);
      few_sets = subst (λ n. n ≤ stated_limits.elementary_rows) (sym m.sets) g.inside.few_sets;
      within = All-from_has (λ (s : State). All (IsEdgeWithin (length (labelled t made).states) made.sets) s.edges) (labelled t made).states (λ s h. All-from_has (IsEdgeWithin (length (labelled t made).states) made.sets) s.edges (λ e k.
          let (u, i, q) = map_cases (labelled_state t) made.states s h in
          let (f, j, p) = map_cases (labelled_edge t) u.edges e (subst (λ (v : State). Has v.edges e) q k) in
          let from = All-at_has (IsFrom C count) u.edges (All-at_has (λ (v : State). All (IsFrom C count) v.edges) made.states m.from u i) f j in
          let old = All-at_has (IsEdgeWithin (length (labelled t C).states) C.sets) (state_at (labelled t C) from.state).edges (edges_within (labelled t C) (IsEdgeWithin (length (labelled t C).states) C.sets) from.state g.inside.within) (labelled_edge t from.edge) (there_labelled f from) in
          subst (λ x. IsEdgeWithin (length (labelled t made).states) made.sets x) (sym p) (subst (λ n. IsEdgeWithin n made.sets (labelled_edge t f)) (sym long) (subst (λ n. IsEdgeWithin count n (labelled_edge t f)) (sym m.sets) (edge_within (length (labelled t C).states) f from old)))));
    };
    accepting = All-from_has (λ (s : State). s.accepting ≡ true) (labelled t made).states (λ s h.
        let (u, i, q) = map_cases (labelled_state t) made.states s h in
        ap (λ (v : State). v.accepting) q ∙ All-at_has (λ (v : State). v.accepting ≡ true) made.states m.accepting u i);
  }
    where
      long : length (labelled t made).states ≡ count
      long = labelled_length t made ∙ m.long

  pub made_built : count ≤ length (labelled t C).states → total ≤ edge_count (labelled t C) → IsBuiltFrom (labelled t C) (labelled t made)
  made_built few fits = record {
    sets = m.sets;
    states = let a = labelled_length t made in let b = m.long in omega (arith, a, b, few);
    edges = let b : edge_count made + left ≡ total = m.sum in let c = count_labelled made in omega (arith, b, c, fits);
    names = λ n below s e h l k.
        let (f, i, q) = map_cases (labelled_edge t) (state_at made s).edges e (subst (λ (u : State). Has u.edges e) (state_at_labelled t made s) h) in
        let from = from_at s f i in
        below from.state (labelled_edge t from.edge) (there_labelled f from) l (subst (λ c. Has c l) (ap (λ (x : Edge). x.cube) q ∙ cube_of_from f from) k);
  }

-- the automaton with a copy of the tables

module _ (A : Automaton) (t u : Tables) (C : Automaton) (count total b left : ℕ) (made : Automaton) (tables : AreTables t) (in_table : AreCoded t C) (is : labelled t C ≡ A) (copy : u ≡ t) (m : IsMaking C count total made b left) (done : b ≡ count) where
  whole : IsMaking C count total made count left
  whole = subst (λ n. IsMaking C count total made n left) done m

  pub whole_tables : AreTables u
  whole_tables = subst AreTables (sym copy) tables

  pub whole_coded : AreCoded u made
  whole_coded = subst (λ x. AreCoded x made) (sym copy) (made_coded t tables C in_table count total left made whole)

  pub whole_gba : IsAcceptingGba A → count ≤ length A.states → 0 < count → total ≤ edge_count A → IsAcceptingGba (labelled u made)
  whole_gba g few some fits =
      subst (λ x. IsAcceptingGba (labelled x made)) (sym copy) (made_gba t tables C in_table count total left made whole (subst IsAcceptingGba (sym is) g) (subst (λ X. count ≤ length X.states) (sym is) few) some (subst (λ X. total ≤ edge_count X) (sym is) fits))

  pub whole_built : count ≤ length A.states → total ≤ edge_count A → IsBuiltFrom A (labelled u made)
  whole_built few fits =
      subst (λ X. IsBuiltFrom X (labelled u made)) is (subst (λ x. IsBuiltFrom (labelled t C) (labelled x made)) (sym copy) (made_built t tables C in_table count total left made whole (subst (λ X. count ≤ length X.states) (sym is) few) (subst (λ X. total ≤ edge_count X) (sym is) fits)))
