-- The renumbered automaton by its states: the reached ones, in their new order.
use Rattle.std.proofs.Common.{◌≡◌, ℕ, List, map, sym, subst}
use Rattle.std.specs.Prelude.{◌==◌}
use Rattle.ltl_spec.specs.Collections.Sets.{Has, set_of}
use Rattle.ltl_spec.specs.Collections.Lists.{place_of}
use Rattle.ltl_spec.specs.Automata.Automaton.{Automaton, State, Edge, edge_cmp, state_at}
use Rattle.ltl_spec.specs.Automata.Net.{edge_in}
use Rattle.ltl_spec.specs.Construction.Merging.{retargeted_state}
use Rattle.ltl_spec.specs.Construction.Renumbered.{state_net, renumbered_automaton}
use Rattle.ltl_spec.proofs.Collections.Orders.{edge_linear}
use Rattle.ltl_spec.proofs.Collections.SetLaws.{set_of_alike, set_of_cases, Has-set_of}
use Rattle.ltl_spec.proofs.Collections.MemberLaws.{Has-map, map_cases}
use Rattle.ltl_spec.proofs.Construction.RenumberedRuns.{reached_states}

-- made a set before the change of targets and again behind it, or only behind it
set_again : (f : Edge → Edge) (edges : List Edge) → set_of edge_cmp (map f (set_of edge_cmp edges)) ≡ set_of edge_cmp (map f edges)
set_again f edges =
    set_of_alike edge_linear (map f (set_of edge_cmp edges)) (map f edges)
    (λ e h. let (x, k, q) = map_cases f (set_of edge_cmp edges) e h in subst (Has (map f edges)) (sym q) (Has-map f edges x (set_of_cases edge_linear edges x k)))
    (λ e h. let (x, k, q) = map_cases f edges e h in subst (Has (map f (set_of edge_cmp edges))) (sym q) (Has-map f (set_of edge_cmp edges) x (Has-set_of edge_linear edges x k)))

-- so each state has its edges with their new targets, as a set
pub renumbered_is : (A : Automaton)
    → renumbered_automaton A ≡ record { sets = A.sets; states = map (λ s. retargeted_state (λ t. place_of ◌==◌ t (reached_states A)) (state_at A s)) (reached_states A) }
renumbered_is A = λ i.
    let at : ℕ → State = λ s. record { accepting = (state_at A s).accepting; edges = set_again (edge_in ◌==◌ (state_net A) (reached_states A)) (state_at A s).edges i } in
    let X : Automaton = record { sets = A.sets; states = map at (reached_states A) } in X
