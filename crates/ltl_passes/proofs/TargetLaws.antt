-- What holds of all targets and states.
use Rattle.std.proofs.Common.{◌≡◌, ℕ, ◌+◌, ◌<◌, List, [], ◌∷◌, ◌++◌, length, map, sym, ap, subst, length-append, ◌∙◌}
use Rattle.std.specs.Prelude.{slice_index, All}
use Rattle.ltl_spec.specs.Automata.Automaton.{Automaton, Edge, state_at}
use Rattle.ltl_spec.specs.Construction.Merging.{retargeted_edge}
use Rattle.ltl_spec.proofs.Collections.ListLaws.{All-at_has, All-from_has}
use Rattle.ltl_spec.proofs.Collections.MemberLaws.{map_cases}
use Rattle.ltl_spec.proofs.Collections.Orders.{edge_linear}
use Rattle.ltl_spec.proofs.Collections.SetLaws.{set_of_cases}
use Rattle.ltl_spec.proofs.Semantics.Runs.{IsClosed}
use Rattle.ltl_automaton.specs.CodedEdges.{coded_edge_of}
use Rattle.ltl_automaton.specs.declared.coded_edge.CodedEdge as code
use Rattle.ltl_automaton.proofs.EdgeLaws.{All_from_map}
use Rattle.ltl_models.proofs.Within.{edges_within}
use Rattle.ltl_passes.specs.Partition.{IsWithinStates, retargeted_list}

-- an automaton whose edges lead to states is closed
pub closed_within : (A : Automaton) → 0 < length A.states → IsWithinStates A.states → IsClosed A
closed_within A some within = record {
  begins = some;
  inside = λ s e h. All-at_has (λ (f : Edge). f.target < length A.states) (state_at A s).edges (edges_within A (λ (f : Edge). f.target < length A.states) s within) e h;
}

-- one more is one longer
pub pushed_longer : {K : Type 0} (xs ys : List K) (x : K) → ys ≡ xs ++ x ∷ [] → length ys ≡ length xs + 1
pushed_longer xs ys x e = ap length e ∙ length-append xs (x ∷ [])

-- edges lead to numbers where their targets have these
pub retargeted_within : (numbers : List ℕ) (n : ℕ) (edges made : List code.CodedEdge) → All (λ e. e.target < length numbers) edges → All (λ k. k < n) numbers → map coded_edge_of made ≡ retargeted_list (slice_index numbers) (map coded_edge_of edges)
    → All (λ e. e.target < n) made
retargeted_within numbers n edges made w h e =
    let P : Edge → Type 0 = λ f. f.target < n in
    All_from_map P coded_edge_of made (subst (All P) (sym e) (All-from_has P (retargeted_list (slice_index numbers) (map coded_edge_of edges)) (λ f k.
    let (g, i, c) = map_cases (retargeted_edge (slice_index numbers)) (map coded_edge_of edges) f (set_of_cases edge_linear (map (retargeted_edge (slice_index numbers)) (map coded_edge_of edges)) f k) in
    let (x, j, d) = map_cases coded_edge_of edges g i in
    let l : g.target < length numbers = subst (λ (y : Edge). y.target < length numbers) (sym d) (All-at_has (λ (y : code.CodedEdge). y.target < length numbers) edges w x j) in
    subst P (sym c) (h g.target 0 l))))
