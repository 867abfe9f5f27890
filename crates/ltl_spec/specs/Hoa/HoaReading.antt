-- The texts that read as an automaton.
use Rattle.std.specs.Prelude.{◌≡◌, ℕ, zero, suc, ◌<◌, ◌≤◌, Bool, true, false, not, ◌&&◌, ◌==◌, nat_lt, IsTrue, List, [], ◌∷◌, ◌++◌, length, map, filter, flat_map, filter_map, sum_by, Option, Some, None, unwrap_or, codes}
use Rattle.std.specs.List.{list_all, range_with_len}
use Rattle.std.specs.Ordering.{nat_cmp}
use Rattle.ltl_spec.specs.Collections.Sets.{set_of}
use Rattle.ltl_spec.specs.Collections.Lists.{HasNoRepeats}
use Rattle.ltl_spec.specs.Semantics.Word.{Name}
use Rattle.ltl_spec.specs.Formulas.Names.{is_proposition}
use Rattle.ltl_spec.specs.Automata.Automaton.{Edge}
use Rattle.ltl_spec.specs.Tools.Limits.{Limits}
use Rattle.ltl_spec.specs.Hoa.HoaToken.{HoaToken, StringToken, Identifier, Header, Int, Body, End, OpenLabel, CloseLabel, OpenSets, CloseSets, OpenBracket, CloseBracket, AndSign, is_upper, hoa_tokens}
use Rattle.ltl_spec.specs.Hoa.HoaLabel.{Label, label_tokens, is_grouped, has_names_below, label_cubes, is_wide}

-- which acceptance conditions are read: those of at most so many sets
abbrev pub AcceptanceForm : Type 0
AcceptanceForm = ℕ

-- those that the programs read
abbrev pub stated_form : AcceptanceForm
stated_form = 32

abbrev pub set_tokens : ℕ → List HoaToken
set_tokens k = Identifier (codes "Inf") ∷ OpenBracket ∷ Int k ∷ CloseBracket ∷ []

-- the number of sets, and then all sets: `1 Inf(0)`, `2 Inf(0)&Inf(1)`, and for none `0 t`
abbrev pub acceptance_tokens : ℕ → List HoaToken
acceptance_tokens zero = Int 0 ∷ Identifier (codes "t") ∷ []
acceptance_tokens (suc n) = Int (suc n) ∷ set_tokens 0 ++ flat_map (λ k. AndSign ∷ set_tokens k) (range_with_len 1 n)

-- an item of the header. Items of other names are left out of account
pub data HoaHeaderItem : Type 0 where
  StatesItem StartItem SetsItem : ℕ → HoaHeaderItem
  NamesItem : List Name → HoaHeaderItem
  OtherItem : List ℕ → List HoaToken → HoaHeaderItem

abbrev pub header_item_tokens : HoaHeaderItem → List HoaToken
header_item_tokens (StatesItem n) = Header (codes "States") ∷ Int n ∷ []
header_item_tokens (StartItem n) = Header (codes "Start") ∷ Int n ∷ []
header_item_tokens (SetsItem n) = Header (codes "Acceptance") ∷ acceptance_tokens n
header_item_tokens (NamesItem names) = Header (codes "AP") ∷ Int (length names) ∷ map StringToken names
header_item_tokens (OtherItem name tokens) = Header name ∷ tokens

-- strings, numbers and identifiers may stand in an item of another name, which begins with no upper-case letter
abbrev pub is_plain : HoaToken → Bool
is_plain (StringToken s) = true
is_plain (Int n) = true
is_plain (Identifier s) = true
is_plain _ = false

abbrev pub begins_upper : List ℕ → Bool
begins_upper [] = false
begins_upper (b ∷ bs) = is_upper b

-- whether an item of another name may stand
abbrev pub is_item : HoaHeaderItem → Bool
is_item (OtherItem name tokens) = not (begins_upper name) && list_all is_plain tokens
is_item _ = true

-- an edge and a state as they are written, with the acceptance sets that stand there
pub record WrittenEdge : Type 0 where
  pub label : Label
  pub target : ℕ
  pub sets : Option (List ℕ)

pub record WrittenState : Type 0 where
  pub number : ℕ
  pub name : Option (List ℕ)
  pub sets : Option (List ℕ)
  pub edges : List WrittenEdge

-- a text as it is written: the items of its header and its states
pub record HoaDocument : Type 0 where
  pub items : List HoaHeaderItem
  pub states : List WrittenState

abbrev pub sets_tokens : Option (List ℕ) → List HoaToken
sets_tokens None = []
sets_tokens (Some sets) = OpenSets ∷ map Int sets ++ CloseSets ∷ []

abbrev pub name_tokens : Option (List ℕ) → List HoaToken
name_tokens None = []
name_tokens (Some name) = StringToken name ∷ []

abbrev pub edge_tokens : WrittenEdge → List HoaToken
edge_tokens e = OpenLabel ∷ label_tokens e.label ++ CloseLabel ∷ Int e.target ∷ sets_tokens e.sets

abbrev pub state_tokens : WrittenState → List HoaToken
state_tokens s = Header (codes "State") ∷ Int s.number ∷ name_tokens s.name ++ sets_tokens s.sets ++ flat_map edge_tokens s.edges

-- a whole text by its tokens
abbrev pub document_tokens : HoaDocument → List HoaToken
document_tokens d =
    Header (codes "HOA") ∷ Identifier (codes "v1") ∷ flat_map header_item_tokens d.items ++ Body ∷ flat_map state_tokens d.states ++ End ∷ []

-- an automaton with sets on its edges. The edges of a state stand in the order of the text, and those of one label in the order of cubes
pub record MarkedAutomaton : Type 0 where
  pub states : ℕ
  pub start : ℕ
  pub sets : ℕ
  pub names : List Name
  pub edges : List (List Edge)

-- one edge for each cube, in the sets of its state and in its own
abbrev pub cube_edges : Option (List ℕ) → WrittenEdge → List Edge
cube_edges sets e =
    let marks = set_of nat_cmp (unwrap_or sets [] ++ unwrap_or e.sets []) in
    map (λ c. record { cube = c; target = e.target; marks = marks }) (label_cubes e.label)

-- the edges of a written state, in the order of the text
abbrev pub state_edges : WrittenState → List Edge
state_edges s = flat_map (cube_edges s.sets) s.edges

-- the edges of the state with this number; a state that isn't written has none
abbrev pub edges_at : HoaDocument → ℕ → List Edge
edges_at d k = flat_map state_edges (filter (λ s. s.number == k) d.states)

-- what an item says of the number of states, of the start, of the number of sets, of the names
abbrev pub states_in : HoaHeaderItem → Option ℕ
states_in (StatesItem n) = Some n
states_in _ = None

abbrev pub start_in : HoaHeaderItem → Option ℕ
start_in (StartItem n) = Some n
start_in _ = None

abbrev pub sets_in : HoaHeaderItem → Option ℕ
sets_in (SetsItem n) = Some n
sets_in _ = None

abbrev pub names_in : HoaHeaderItem → Option (List Name)
names_in (NamesItem names) = Some names
names_in _ = None

module _ (A : MarkedAutomaton) where
  abbrev pub are_sets : Option (List ℕ) → Bool
  are_sets sets = list_all (λ k. nat_lt k A.sets) (unwrap_or sets [])

  -- all numbers of an edge are below their counts
  abbrev pub is_edge_inside : WrittenEdge → Bool
  is_edge_inside e = is_grouped e.label && has_names_below (length A.names) e.label && nat_lt e.target A.states && are_sets e.sets

  abbrev pub is_state_inside : WrittenState → Bool
  is_state_inside s = nat_lt s.number A.states && are_sets s.sets && list_all is_edge_inside s.edges

-- the document describes the automaton
pub record IsDocumentOf (form : AcceptanceForm) (A : MarkedAutomaton) (d : HoaDocument) : Type 0 where
  pub items : IsTrue (list_all is_item d.items)
  -- each of these items stands once
  pub states : filter_map states_in d.items ≡ A.states ∷ []
  pub start : filter_map start_in d.items ≡ A.start ∷ []
  pub sets : filter_map sets_in d.items ≡ A.sets ∷ []
  pub names : filter_map names_in d.items ≡ A.names ∷ []
  pub few_sets : A.sets ≤ form
  pub begins : A.start < A.states
  pub propositions : IsTrue (list_all is_proposition A.names)
  pub differ : HasNoRepeats A.names
  -- each state stands at most once
  pub once : HasNoRepeats (map (λ s. s.number) d.states)
  pub inside : IsTrue (list_all (is_state_inside A) d.states)
  pub edges : A.edges ≡ map (edges_at d) (range_with_len 0 A.states)

-- neither the text, nor the automaton, nor a label passes a limit
pub record IsWithin (l : Limits) (text : List ℕ) (A : MarkedAutomaton) (d : HoaDocument) : Type 0 where
  pub bytes : length text ≤ l.hoa_bytes
  pub states : A.states ≤ l.hoa_states
  pub names : length A.names ≤ l.propositions
  pub labels : IsTrue (list_all (λ s. list_all (λ e. not (is_wide l.label_cubes e.label)) s.edges) d.states)
  pub edges : sum_by (λ s. length (state_edges s)) d.states ≤ l.hoa_edges

-- the text reads as the automaton within the limits
pub record HoaReadsWithin (l : Limits) (form : AcceptanceForm) (text : List ℕ) (A : MarkedAutomaton) : Type 0 where
  pub document : HoaDocument
  pub spelled : hoa_tokens text ≡ document_tokens document
  pub describes : IsDocumentOf form A document
  pub within : IsWithin l text A document
