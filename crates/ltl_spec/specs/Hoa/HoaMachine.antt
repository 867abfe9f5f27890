-- The machine that reads an automaton's text item by item: the automaton that the text is, or its fault.
use Rattle.std.specs.Prelude.{ℕ, ◌==◌, if◌then◌else◌, List, [], ◌∷◌, ◌++◌, map, fold, Option, Some, None, unwrap_or, Result, Ok, Err}
use Rattle.std.specs.List.{range_with_len}
use Rattle.std.specs.Ordering.{nat_cmp}
use Rattle.ltl_spec.specs.Collections.Sets.{set_of}
use Rattle.ltl_spec.specs.Transitions.Cubes.{Cube}
use Rattle.ltl_spec.specs.Automata.Automaton.{Edge}
use Rattle.ltl_spec.specs.Tools.Limits.{Limits}
use Rattle.ltl_spec.specs.Hoa.HoaToken.{HoaToken, Int, CloseLabel, HoaItem, hoa_items}
use Rattle.ltl_spec.specs.Hoa.HoaLabel.{label_cubes}
use Rattle.ltl_spec.specs.Hoa.HoaReading.{AcceptanceForm, MarkedAutomaton}
use Rattle.ltl_spec.specs.Hoa.HoaPlace.{BodyPlace, AtNumber, InStateSets, AfterOperand, AtTarget, InEdgeSets, Place, InBody, HoaHeader, Before, no_header, before_all, whole}
use Rattle.ltl_spec.specs.Hoa.HoaFault.{HoaFault, take_item, hoa_fault}

-- an edge as it came: its state, the cubes of its label, its target, and the sets of its state and then its own
pub record CameEdge : Type 0 where
  pub state : ℕ
  pub cubes : List Cube
  pub target : ℕ
  pub sets : List ℕ

-- what came so far of the body: the sets of the state that stood last, the cubes of the label that ended last, and the edges, the last first
pub record Came : Type 0 where
  pub sets : List ℕ
  pub cubes : List Cube
  pub edges : List CameEdge

abbrev pub came_none : Came
came_none = record { sets = []; cubes = []; edges = [] }

abbrev pub first_or : ℕ → List ℕ → ℕ
first_or n [] = n
first_or n (m ∷ ms) = m

abbrev pub with_set : ℕ → List CameEdge → List CameEdge
with_set k [] = []
with_set k (e ∷ es) = record e { sets = e.sets ++ k ∷ [] } ∷ es

-- what a token at its place adds
abbrev pub came_in : BodyPlace → Before → HoaToken → Came → Came
came_in AtNumber b (Int n) g = record g { sets = [] }
came_in InStateSets b (Int k) g = record g { sets = g.sets ++ k ∷ [] }
came_in (AfterOperand p) b CloseLabel g = record g { cubes = label_cubes (whole p.inner) }
came_in AtTarget b (Int n) g = record g { edges = record { state = first_or 0 b.numbers; cubes = g.cubes; target = n; sets = g.sets } ∷ g.edges }
came_in InEdgeSets b (Int k) g = record g { edges = with_set k g.edges }
came_in _ b t g = g

abbrev pub came_at : Place → Before → HoaToken → Came → Came
came_at (InBody p) b t g = came_in p b t g
came_at _ b t g = g

-- the edges of a cube each
abbrev pub cube_edges : CameEdge → List Edge
cube_edges e = map (λ c. record { cube = c; target = e.target; marks = set_of nat_cmp e.sets }) e.cubes

-- the edges of a state, in the order in which they came
abbrev pub edges_of : ℕ → List CameEdge → List Edge
edges_of k [] = []
edges_of k (e ∷ es) = edges_of k es ++ (if e.state == k then cube_edges e else [])

-- the state behind some items, or their fault, and what came
abbrev pub Reached : Type 0
Reached = Result Before HoaFault × Came

abbrev pub came_by : Result Before HoaFault → HoaItem → Came → Came
came_by (Ok b) i g = came_at b.place b i.token g
came_by (Err f) i g = g

-- the automaton of a header and of what came
abbrev pub automaton_of : HoaHeader → Came → MarkedAutomaton
automaton_of h g =
    let states = unwrap_or h.states 0 in
    record { states = states; start = unwrap_or h.start 0; sets = unwrap_or h.sets 0; names = unwrap_or h.names []; edges = map (λ k. edges_of k g.edges) (range_with_len 0 states) }

abbrev pub header_in : Result Before HoaFault → HoaHeader
header_in (Ok b) = b.header
header_in (Err f) = no_header

-- the automaton, unless there is a fault
abbrev pub unless_fault : Option HoaFault → MarkedAutomaton → Result MarkedAutomaton HoaFault
unless_fault None A = Ok A
unless_fault (Some f) A = Err f

module _ (l : Limits) (form : AcceptanceForm) (text : List ℕ) where
  -- behind one more item
  abbrev pub reach : Reached → HoaItem → Reached
  reach r i = (take_item l form text r.0 i, came_by r.0 i r.1)

  abbrev pub reached : List HoaItem → Reached
  reached items = fold reach (Ok before_all, came_none) items

  -- the automaton that the text is, or its fault
  abbrev pub hoa_answer : Result MarkedAutomaton HoaFault
  hoa_answer = let r = reached (hoa_items text) in unless_fault (hoa_fault l form text) (automaton_of (header_in r.0) r.1)
