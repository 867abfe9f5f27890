-- Things with edges between them, and the automaton of those that are listed breadth first from a start.
use Rattle.std.specs.Prelude.{◌≡◌, ℕ, Bool, if◌then◌else◌, List, map}
use Rattle.ltl_spec.specs.Collections.Sets.{set_of}
use Rattle.ltl_spec.specs.Collections.Lists.{place_of}
use Rattle.ltl_spec.specs.Automata.Automaton.{Automaton, State, Edge, edge_cmp}
use Rattle.ltl_spec.specs.Automata.Listing.{listing, IsComplete}

-- the moves from each thing, the thing to which a move leads, its edge to the state of a number, and which things are accepting
pub record Net (K M : Type 0) : Type 0 where
  pub moves : K → List M
  pub target : M → K
  pub edge : M → ℕ → Edge
  pub accepts : K → Bool

-- where the moves from a thing lead, in their order
abbrev pub targets_of : {K M : Type 0} → Net K M → K → List K
targets_of net k = map net.target (net.moves k)

-- the edge of a move to the place of its target in this list
abbrev pub edge_in : {K M : Type 0} → (K → K → Bool) → Net K M → List K → M → Edge
edge_in same net keys m = net.edge m (place_of same (net.target m) keys)

module _ {K M : Type 0} (same : K → K → Bool) (sorted : Bool) (net : Net K M) where
  -- the state of a thing, where the things stand in this list; its edges are made a set if this is asked
  abbrev pub state_in : List K → K → State
  state_in keys k = let edges = map (edge_in same net keys) (net.moves k) in record { accepting = net.accepts k; edges = if sorted then set_of edge_cmp edges else edges }

  -- the automaton of the things that are listed from the start when n were taken
  abbrev pub listed_automaton : K → ℕ → ℕ → Automaton
  listed_automaton start sets n = let keys = listing same (targets_of net) start n in record { sets = sets; states = map (state_in keys) keys }

  -- the automaton of all things that are reached from the start
  abbrev pub IsReachable : K → ℕ → Automaton → Type 0
  IsReachable start sets A = (n : ℕ) × IsComplete same (targets_of net) start n × (A ≡ listed_automaton start sets n)
