-- The state of the body's parser.
use Rattle.std.specs.Prelude.{◌≡◌, ℕ, ◌<◌, ◌≤◌, Bool, false, List, [], ◌++◌, length, map, slice_index_or, slice_set, replicate}
use Rattle.ltl_spec.specs.Transitions.Cubes.{Cube}
use Rattle.ltl_spec.specs.Automata.Automaton.{Edge}
use Rattle.ltl_spec.specs.Tools.Limits.{stated_limits}
use Rattle.ltl_hoa.specs.declared.header.Counts.{Counts}
use Rattle.ltl_hoa.specs.declared.marked.TheConstants.{MOST_SETS}
use Rattle.ltl_label.specs.LabelView as label
use Rattle.ltl_label.specs.LabelView.{LabelView}

pub record BodyView : Type 0 where
  pub counts : Counts
  -- which states have stood
  pub defined : List Bool
  pub edges : List (List Edge)
  -- how many edges the labels so far make
  pub made : ℕ
  -- the state that stood last, and its sets
  pub at : ℕ
  pub sets : List ℕ
  pub label : LabelView
  -- the last edge: its cubes, its target and its sets
  pub cubes : List Cube
  pub target : ℕ
  pub own : List ℕ

-- the counts stay within their limits, and the lists have a place for each state
pub record IsBody (b : BodyView) : Type 0 where
  pub names : b.counts.names ≤ stated_limits.propositions
  pub sets : b.counts.sets ≤ MOST_SETS
  pub defined : length b.defined ≡ b.counts.states
  pub edges : length b.edges ≡ b.counts.states
  pub at : b.at < b.counts.states
  pub made : b.made ≤ stated_limits.hoa_edges

abbrev pub none_defined : ℕ → List Bool
none_defined n = replicate n false

abbrev pub no_edges : ℕ → List (List Edge)
no_edges n = replicate n []

abbrev pub new_body : Counts → BodyView
new_body c = record { counts = c; defined = none_defined c.states; edges = no_edges c.states; made = 0; at = 0; sets = []; label = label.new_label; cubes = []; target = 0; own = [] }

-- the last edge, one for each of its cubes, stands among those of its state
abbrev pub filed : BodyView → BodyView
filed v =
    record v { edges = slice_set v.edges v.at (slice_index_or v.edges v.at [] ++ map (λ c. record { cube = c; target = v.target; marks = v.own }) v.cubes) }
