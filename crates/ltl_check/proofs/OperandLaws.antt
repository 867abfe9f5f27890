-- The parts of the edges of an automaton, and a Büchi or generalized automaton with names as one that is read.
use Rattle.std.proofs.Common.{◌≡◌, ℕ, ◌+◌, ◌<◌, ◌≤◌, Bool, true, false, List, [], ◌∷◌, length, map, inl, inr, refl, sym, ◌∙◌, ap, subst, arith}
use Rattle.std.specs.Prelude.{All, if◌then◌else◌, slice_index_or, sum_by, fold}
use Rattle.std.proofs.lemmas.List.{get_or-map}
use Rattle.ltl_spec.specs.Semantics.Word.{Name}
use Rattle.ltl_spec.specs.Transitions.Cubes.{Literal}
use Rattle.ltl_spec.specs.Automata.Automaton.{Automaton, State, Edge, state_at}
use Rattle.ltl_spec.specs.Checking.Bounds.{HasNamesBelow}
use Rattle.ltl_spec.proofs.Automata.ListedStates.{no_state}
use Rattle.ltl_spec.proofs.Collections.ListLaws.{All-at_has, All-from_has}
use Rattle.ltl_spec.proofs.Collections.MemberLaws.{map_cases, map_length}
use Rattle.ltl_syntax.specs.FormulaView.{IsFormula}
use Rattle.ltl_syntax.specs.declared.operators.Node.{Node}
use Rattle.ltl_models.specs.BaView.{IsBa}
use Rattle.ltl_models.specs.GbaView.{IsGba, IsEdgeWithin as IsGbaEdge}
use Rattle.ltl_spec.specs.Hoa.HoaPrinted as generalized
use Rattle.ltl_hoa.specs.declared.marked.TheConstants.{MOST_SETS}
use Rattle.ltl_hoa.specs.MarkedView.{IsEdgeWithin, IsMarked}
use Rattle.ltl_hoa.specs.Printed.{marked_edge, marked_of}
use Rattle.ltl_check.specs.ProductView.{edge_from, edges_from, no_edge}
use Rattle.ltl_check.proofs.VerdictLaws.{buchi_of}

-- the marks of a Büchi automaton's edge
abbrev pub set_of_leaving : Bool → List ℕ
set_of_leaving accepting = if accepting then 0 ∷ [] else []

one_set : (b : Bool) → All (λ k. k < 1) (set_of_leaving b)
one_set true = All-from_has (λ k. k < 1) (0 ∷ []) (λ k h. elim h [ inl q ↦ omega (arith, q) | inr z ↦ absurd z ])
one_set false = All-from_has (λ k. k < 1) [] (λ k h. absurd h)

abbrev listed_edges : State → List Edge
listed_edges s = map (marked_edge s.accepting) s.edges

module _ (B : Automaton) (names : List Name) (s : ℕ) (inside : s < length B.states) where
  -- the edges of a state
  edges_named : edges_from (marked_of B names) s ≡ listed_edges (state_at B s)
  edges_named = get_or-map listed_edges B.states s no_state [] inside

  pub count_named : length (edges_from (marked_of B names) s) ≡ length (state_at B s).edges
  count_named = ap length edges_named ∙ map_length (marked_edge (state_at B s).accepting) (state_at B s).edges

  -- one of them
  edge_named : (k : ℕ) → k < length (edges_from (marked_of B names) s) → edge_from (marked_of B names) s k ≡ marked_edge (state_at B s).accepting (slice_index_or (state_at B s).edges k no_edge)
  edge_named k l =
      let n = count_named in
      ap (λ es. slice_index_or es k no_edge) edges_named ∙ get_or-map (marked_edge (state_at B s).accepting) (state_at B s).edges k no_edge no_edge (omega (arith, n, l))

  pub marks_named : (k : ℕ) → k < length (edges_from (marked_of B names) s) → (edge_from (marked_of B names) s k).marks ≡ set_of_leaving (state_at B s).accepting
  marks_named k l = ap (λ (e : Edge). e.marks) (edge_named k l)

-- the edges of all states are as many
pub edge_sum : (ss : List State) → sum_by length (map listed_edges ss) ≡ sum_by (λ s. length s.edges) ss
edge_sum ss = total 0 ss
  where
    total : (n : ℕ) (ss : List State) → fold (λ a (es : List Edge). a + length es) n (map listed_edges ss) ≡ fold (λ a (s : State). a + length s.edges) n ss
    total n [] = refl
    total n (s ∷ ss) = ap (λ m. fold (λ a (es : List Edge). a + length es) (n + m) (map listed_edges ss)) (map_length (marked_edge s.accepting) s.edges) ∙ total (n + length s.edges) ss

abbrev Within : ℕ → ℕ → Edge → Type 0
Within names states e = IsEdgeWithin names states 1 e

-- a Büchi automaton with the names of a formula is within the limits
pub named_marked : (B : Automaton) (nodes : List Node) (names : List Name) → IsBa B → IsFormula nodes names → HasNamesBelow (length names) B → IsMarked (marked_of B names)
named_marked B nodes names ba formula named = record {
  counted = map_length listed_edges B.states;
  few_states = ba.few_states;
  begins = ba.some;
  few_names = formula.few;
  few_sets = omega arith;
  propositions = formula.propositions;
  differ = formula.distinct;
  within = λ k d l.
      let here : k < length B.states = (let n = map_length listed_edges B.states in omega (arith, n, l)) in
      subst (All (Within (length names) (length B.states))) (sym (get_or-map listed_edges B.states k no_state d here))
      (All-from_has (Within (length names) (length B.states)) (listed_edges (state_at B k)) (λ e m.
      let (x, n, q) = map_cases (marked_edge (state_at B k).accepting) (state_at B k).edges e m in
      subst (Within (length names) (length B.states)) (sym q) (record {
        cube = All-from_has (λ (j : Literal). j.proposition < length names) x.cube (named k x n);
        target = (buchi_of (length names) B ba named).inside k x n;
        marks = one_set (state_at B k).accepting;
      })));
  few_edges = subst (λ n. n ≤ 1_048_576) (sym (edge_sum B.states)) ba.few_edges;
}

-- the edges of all states are as many
generalized_sum : (ss : List State) → sum_by length (map (λ s. s.edges) ss) ≡ sum_by (λ s. length s.edges) ss
generalized_sum ss = total 0 ss
  where
    total : (n : ℕ) (ss : List State) → fold (λ a (es : List Edge). a + length es) n (map (λ s. s.edges) ss) ≡ fold (λ a (s : State). a + length s.edges) n ss
    total n [] = refl
    total n (s ∷ ss) = total (n + length s.edges) ss

-- a generalized automaton with the names of a formula is within the limits, if it has few acceptance sets
pub generalized_marked : (A : Automaton) (nodes : List Node) (names : List Name) → IsGba A → IsFormula nodes names → HasNamesBelow (length names) A → A.sets ≤ MOST_SETS
    → IsMarked (generalized.marked_of A names)
generalized_marked A nodes names gba formula named few = record {
  counted = map_length (λ s. s.edges) A.states;
  few_states = gba.few_states;
  begins = gba.some;
  few_names = formula.few;
  few_sets = few;
  propositions = formula.propositions;
  differ = formula.distinct;
  within = λ k d l.
      let here : k < length A.states = (let n = map_length (λ (s : State). s.edges) A.states in omega (arith, n, l)) in
      subst (All (IsEdgeWithin (length names) (length A.states) A.sets)) (sym (get_or-map (λ s. s.edges) A.states k no_state d here))
      (All-from_has (IsEdgeWithin (length names) (length A.states) A.sets) (state_at A k).edges (λ e m.
      let edge = All-at_has (IsGbaEdge (length A.states) A.sets) (state_at A k).edges (gba.within k no_state here) e m in
      record {
        cube = All-from_has (λ (j : Literal). j.proposition < length names) e.cube (named k e m);
        target = edge.target;
        marks = edge.marks;
      }));
  few_edges = subst (λ n. n ≤ 1_048_576) (sym (generalized_sum A.states)) gba.few_edges;
}
