-- The merged automaton has what its type holds.
use Rattle.std.proofs.Common.{◌≡◌, ℕ, ◌<◌, Bool, true, false, cond, List, [], length, refl, ◌∙◌, ap, arith}
use Rattle.std.specs.Prelude.{All}
use Rattle.std.proofs.lemmas.List.Elements.{All-weaker}
use Rattle.ltl_spec.specs.Collections.Sets.{Has, IsRising}
use Rattle.ltl_spec.specs.Automata.Automaton.{Automaton, State, Edge, edge_cmp, state_at}
use Rattle.ltl_spec.specs.Construction.Merging.{class_names, merged_automaton}
use Rattle.ltl_spec.specs.Transitions.Cubes.{is_contradictory}
use Rattle.ltl_spec.proofs.Collections.ListLaws.{All-at_has, All-from_has}
use Rattle.ltl_spec.proofs.Collections.MemberLaws.{map_cases}
use Rattle.ltl_spec.proofs.Semantics.Runs.{IsClosed}
use Rattle.ltl_spec.proofs.Construction.ImpliedEdges.{IsSetEdge, thin_accepting}
use Rattle.ltl_spec.proofs.Construction.RoundLaws.{names_length, name_low, name_twice}
use Rattle.ltl_spec.proofs.Construction.NamingLaws.{first_naming, last_alike}
use Rattle.ltl_spec.proofs.Construction.QuotientRuns.{IsNaming, number_inside}
use Rattle.ltl_models.specs.GbaView as gba
use Rattle.ltl_models.specs.BaView.{IsBa, IsPlain}
use Rattle.ltl_passes.specs.Partition.{IsWithinStates}
use Rattle.ltl_models.proofs.Within.{edges_within}
use Rattle.ltl_automaton.proofs.TableLaws.{states_at}
use Rattle.ltl_passes.proofs.QuotientLaws.{quotient_some, quotient_few, quotient_few_edges, quotient_all, quotient_rising, quotient_reached, class_at, listed}

abbrev IsConsistent : Edge → Type 0
IsConsistent e = is_contradictory e.cube ≡ false

module _ (A : Automaton) where
  -- what all edges have, an edge has
  pub of_all : (P : Edge → Type 0) → All (λ s. All P s.edges) A.states → (s : ℕ) (e : Edge) → Has (state_at A s).edges e → P e
  of_all P a s e h = All-at_has P (state_at A s).edges (edges_within A P s a) e h

  pub gba_within : gba.IsGba A → IsWithinStates A.states
  gba_within w =
      All-weaker (λ (s : State). All (gba.IsEdgeWithin (length A.states) A.sets) s.edges) (λ (s : State). All (λ (e : Edge). e.target < length A.states) s.edges)
      (λ s h. All-weaker (gba.IsEdgeWithin (length A.states) A.sets) (λ (e : Edge). e.target < length A.states) (λ e k. k.target) s.edges h) A.states w.within

  module _ (keep_implied keep_equal : Bool) where
    abbrev rounds : ℕ
    rounds = cond keep_equal 0 (length A.states)

    abbrev names : List ℕ
    names = class_names A rounds

    naming_of : (b : Bool) → IsNaming A (class_names A (cond b 0 (length A.states)))
    naming_of true = first_naming A
    naming_of false = record { long = names_length A (length A.states); low = name_low A (length A.states); alike = last_alike A }

    abbrev naming : IsNaming A names
    naming = naming_of keep_equal

    abbrev M : Automaton
    M = merged_automaton keep_implied keep_equal A

    pub merged_accepting : All (λ s. s.accepting ≡ true) A.states → All (λ s. s.accepting ≡ true) M.states
    merged_accepting a = All-from_has (λ (s : State). s.accepting ≡ true) M.states (λ s h.
        let w = map_cases (class_at keep_implied A names naming) (listed keep_implied A names naming) s h in
        ap (λ (t : State). t.accepting) w.2 ∙ thin_accepting keep_implied _ ∙ states_at A (λ (t : State). t.accepting ≡ true) w.0 refl a)

    pub merged_unmarked : IsPlain A → IsPlain M
    merged_unmarked a = quotient_all keep_implied A names naming (λ (e : Edge). e.marks ≡ []) (λ s e h. of_all (λ (x : Edge). x.marks ≡ []) a s e h)

    pub merged_rising : All (λ s. IsRising edge_cmp s.edges) M.states
    merged_rising = quotient_rising keep_implied A names naming

    pub merged_gba : gba.IsGba A → gba.IsGba M
    merged_gba w = record {
      some = quotient_some keep_implied A names naming w.some;
      few_states = let a = quotient_few keep_implied A names naming in let b = w.few_states in omega arith;
      few_edges = let a = quotient_few_edges keep_implied A names naming in let b = w.few_edges in omega arith;
      few_sets = w.few_sets;
      within = quotient_all keep_implied A names naming (gba.IsEdgeWithin (length M.states) A.sets) (λ s e h.
          let k = of_all (gba.IsEdgeWithin (length A.states) A.sets) w.within s e h in
          record { target = number_inside keep_implied names A naming e.target k.target; marks = k.marks; rising = record { cube = k.rising.cube; marks = k.rising.marks }; consistent = k.consistent });
    }

    pub merged_ba : IsBa A → IsBa M
    merged_ba w = record {
      no_sets = w.no_sets;
      some = quotient_some keep_implied A names naming w.some;
      few_states = let a = quotient_few keep_implied A names naming in let b = w.few_states in omega arith;
      few_edges = let a = quotient_few_edges keep_implied A names naming in let b = w.few_edges in omega arith;
      within = quotient_all keep_implied A names naming (λ (e : Edge). e.target < length M.states) (λ s e h. number_inside keep_implied names A naming e.target (of_all (λ (x : Edge). x.target < length A.states) w.within s e h));
      plain = merged_unmarked w.plain;
      sets = quotient_all keep_implied A names naming IsSetEdge (λ s e h. let k = of_all IsSetEdge w.sets s e h in record { cube = k.cube; marks = k.marks });
      consistent = quotient_all keep_implied A names naming IsConsistent (λ s e h. of_all IsConsistent w.consistent s e h);
      rising = merged_rising;
      reached = quotient_reached keep_implied A names naming (name_twice A rounds) closed (of_all IsSetEdge w.sets) w.reached;
    }
      where
        closed : IsClosed A
        closed = record { begins = w.some; inside = of_all (λ (e : Edge). e.target < length A.states) w.within }

  pub merged_accepting_gba : (keep_implied keep_equal : Bool) → gba.IsGba A → All (λ s. s.accepting ≡ true) A.states → gba.IsAcceptingGba (merged_automaton keep_implied keep_equal A)
  merged_accepting_gba keep_implied keep_equal w a = record { inside = merged_gba keep_implied keep_equal w; accepting = merged_accepting keep_implied keep_equal a }
