-- Lists of the code's edges with numbers of labels, by the labels.
use Rattle.std.proofs.Common.{◌≡◌, ℕ, ◌<◌, Bool, cond, List, length, map, sym, ◌∙◌, ap, subst}
use Rattle.std.specs.Prelude.{All}
use Rattle.std.proofs.lemmas.List.Elements.{All-map}
use Rattle.ltl_spec.specs.Collections.Sets.{Has}
use Rattle.ltl_spec.specs.Automata.Automaton.{Automaton, Edge, State, state_at}
use Rattle.ltl_spec.specs.Construction.Merging.{class_names}
use Rattle.ltl_spec.proofs.Collections.MemberLaws.{map_cases}
use Rattle.ltl_automaton.proofs.EdgeLaws.{All_from_map}
use Rattle.ltl_automaton.specs.declared.coded_edge.CodedEdge as code
use Rattle.ltl_automaton.specs.declared.labels.Labels as slices
use Rattle.ltl_automaton.specs.CodedEdges.{HaveLabels, coded_edge_of, labelled_edge_of, tables_of}
use Rattle.ltl_automaton.specs.Labels.{Tables, AreCoded, AreTables, IsCoded, labelled, labelled_edge}
use Rattle.ltl_passes.specs.Partition.{IsWithinStates, retargeted_list}
use Rattle.ltl_passes.proofs.LabelLaws.{coded_retargeted, labelled_names, labelled_retargeted}
use Rattle.ltl_automaton.proofs.TableLaws.{labelled_length, labels_seen, state_at_labelled}
use Rattle.ltl_passes.proofs.MergedLaws.{of_all}

module _ (l : slices.Labels) where
  -- edges have labels where those that are seen are coded
  pub labels_had : (es : List code.CodedEdge) → All (IsCoded (tables_of l)) (map coded_edge_of es) → HaveLabels l es
  labels_had es c = All_from_map (IsCoded (tables_of l)) coded_edge_of es c

  -- and the other way round
  pub labels_coded : (es : List code.CodedEdge) → HaveLabels l es → All (IsCoded (tables_of l)) (map coded_edge_of es)
  labels_coded es c = All-map (IsCoded (tables_of l)) coded_edge_of es c

  module _ (f : ℕ → ℕ) (edges made : List code.CodedEdge) (had : HaveLabels l edges) (e : map coded_edge_of made ≡ retargeted_list f (map coded_edge_of edges)) where
    -- with other targets, edges keep their labels
    pub labels_retargeted : AreTables (tables_of l) → map (labelled_edge_of l) made ≡ retargeted_list f (map (labelled_edge_of l) edges)
    labels_retargeted a =
        labels_seen l made ∙ ap (map (labelled_edge (tables_of l))) e ∙ labelled_retargeted (tables_of l) a f (map coded_edge_of edges) (labels_coded edges had)
        ∙ ap (retargeted_list f) (sym (labels_seen l edges))

    pub labels_kept : HaveLabels l made
    labels_kept = labels_had made (subst (All (IsCoded (tables_of l))) (sym e) (coded_retargeted (tables_of l) f (map coded_edge_of edges) (labels_coded edges had)))

-- where edges lead to states, they do with their labels
pub labelled_within : (t : Tables) (A : Automaton) → IsWithinStates A.states → (s : ℕ) (e : Edge) → Has (state_at (labelled t A) s).edges e → e.target < length A.states
labelled_within t A w s e h =
    let (f, k, d) = map_cases (labelled_edge t) (state_at A s).edges e (subst (λ (r : State). Has r.edges e) (state_at_labelled t A s) h) in
    subst (λ (x : Edge). x.target < length A.states) (sym d) (of_all A (λ (x : Edge). x.target < length A.states) w s f k)

-- after merging, the classes have the names of those with numbers for labels
pub labelled_classes : (t : Tables) (A : Automaton) (keep_equal : Bool) → AreTables t → AreCoded t A
    → class_names A (cond keep_equal 0 (length A.states)) ≡ class_names (labelled t A) (cond keep_equal 0 (length (labelled t A).states))
labelled_classes t A keep_equal a c =
    sym (labelled_names t a A c (cond keep_equal 0 (length A.states))) ∙ ap (λ n. class_names (labelled t A) (cond keep_equal 0 n)) (sym (labelled_length t A))
