-- States of an automaton that have equal edges are merged, again and again.
use Rattle.std.specs.Prelude.{◌≡◌, ℕ, zero, suc, ◌<◌, Bool, not, ◌&&◌, ◌==◌, if◌then◌else◌, List, map, filter, length, slice_index}
use Rattle.std.specs.List.{list_any, range_with_len}
use Rattle.std.specs.Cmp.Lexicographic.{pointwise}
use Rattle.std.specs.Bool.{beq}
use Rattle.std.specs.Ordering.{nat_cmp, is_eq}
use Rattle.ltl_spec.specs.Collections.Sets.{set_of, is_subset}
use Rattle.ltl_spec.specs.Collections.Lists.{place_of}
use Rattle.ltl_spec.specs.Transitions.Cubes.{literal_cmp}
use Rattle.ltl_spec.specs.Automata.Automaton.{Automaton, State, Edge, edge_cmp, state_at}

abbrev pub same_edge : Edge → Edge → Bool
same_edge e f = is_eq (edge_cmp e f)

abbrev pub same_state : State → State → Bool
same_state s t = beq s.accepting t.accepting && pointwise same_edge s.edges t.edges

-- the edge with another target
abbrev pub retargeted_edge : (ℕ → ℕ) → Edge → Edge
retargeted_edge f e = record e { target = f e.target }

-- the state with other targets; its edges are a set
abbrev pub retargeted_state : (ℕ → ℕ) → State → State
retargeted_state f s = record s { edges = set_of edge_cmp (map (retargeted_edge f) s.edges) }

-- Each state's class by its name, the least state of the class. At first each state is alone; in the next round two states are equal
-- if both or neither is accepting and their edges are equal up to the classes of the targets
abbrev pub class_names : Automaton → ℕ → List ℕ
class_names A zero = range_with_len 0 (length A.states)
class_names A (suc n) =
    let names = class_names A n in
    let seen = map (retargeted_state (slice_index names)) A.states in
    map (λ s. place_of same_state s seen) seen

-- the two are states, and equal at some round
abbrev pub IsMerged : Automaton → ℕ → ℕ → Type 0
IsMerged A s t = (s < length A.states) × (t < length A.states) × ((n : ℕ) × (slice_index (class_names A n) s ≡ slice_index (class_names A n) t))

-- e has the target of f, asks for no more, and is in each set that f is in
abbrev pub implies_edge : Edge → Edge → Bool
implies_edge e f = e.target == f.target && is_subset literal_cmp e.cube f.cube && is_subset nat_cmp f.marks e.marks

-- without those that another one with the same target implies
abbrev pub unimplied_edges : List Edge → List Edge
unimplied_edges es = filter (λ e. not (list_any (λ f. not (same_edge f e) && implies_edge f e) es)) es

abbrev pub without_implied : Bool → State → State
without_implied keep_implied s = if keep_implied then s else record s { edges = unimplied_edges s.edges }

-- the automaton of the classes that these names give, numbered in the order of their names; the edges of a state are a set
abbrev pub quotient : Bool → List ℕ → Automaton → Automaton
quotient keep_implied names A =
    let classes = set_of nat_cmp names in
    let number_of = λ (s : ℕ). place_of ◌==◌ (slice_index names s) classes in
    record { sets = A.sets; states = map (λ c. without_implied keep_implied (retargeted_state number_of (state_at A c))) classes }

-- the automaton after merging. As many rounds as there are states suffice; with `keep_equal` there is none
abbrev pub merged_automaton : Bool → Bool → Automaton → Automaton
merged_automaton keep_implied keep_equal A = quotient keep_implied (class_names A (if keep_equal then 0 else length A.states)) A
