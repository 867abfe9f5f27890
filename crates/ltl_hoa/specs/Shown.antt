-- The relation of the body parser's state to the state of the definition, and what its steps make of it.
use Rattle.std.specs.Prelude.{◌≡◌, ℕ, zero, suc, ◌<◌, ◌≤◌, Bool, true, false, not, ◌==◌, nat_lt, if◌then◌else◌, List, [], ◌∷◌, ◌++◌, length, slice_index_or, Option, Some, None, option_map, Result, Ok, Err, ⊤}
use Rattle.std.specs.Bool.{beq}
use Rattle.std.specs.List.{list_any}
use Rattle.std.specs.Ordering.{nat_cmp}
use Rattle.ltl_spec.specs.Collections.Sets.{set_of}
use Rattle.ltl_spec.specs.NormalForms.Normal.{Normal}
use Rattle.ltl_spec.specs.NormalForms.NormalForm.{normal_form, postorder}
use Rattle.ltl_spec.specs.Transitions.Cubes.{Cube}
use Rattle.ltl_spec.specs.Tools.Limits.{stated_limits}
use Rattle.ltl_spec.specs.Hoa.HoaToken.{HoaToken}
use Rattle.ltl_spec.specs.Hoa.HoaLabel.{Label, label_formula, cubes}
use Rattle.ltl_spec.specs.Hoa.HoaPlace as spec
use Rattle.ltl_spec.specs.Hoa.HoaPlace.{Before, HoaHeader, LabelPart, LabelParts, whole}
use Rattle.ltl_spec.specs.Hoa.HoaStep.{Step, step_in_body, step_unless_abort}
use Rattle.ltl_spec.specs.Hoa.HoaMachine.{Came, CameEdge, came_in, first_or, edges_of}
use Rattle.ltl_hoa.specs.declared.fault.Stop.{Stop}
use Rattle.ltl_hoa.specs.declared.fault.Stop.TheVariants.{OutOfMemory}
use Rattle.ltl_hoa.specs.declared.marked.TheConstants.{MOST_SETS}
use Rattle.ltl_hoa.specs.declared.place.Place.{Place}
use Rattle.ltl_hoa.specs.declared.place.Place.TheVariants as place
use Rattle.ltl_hoa.specs.declared.place.BodyPlace.{BodyPlace}
use Rattle.ltl_hoa.specs.declared.place.BodyPlace.TheVariants as at
use Rattle.ltl_hoa.specs.declared.header.Counts.{Counts}
use Rattle.ltl_label.specs.LabelView.{LabelView, PartView}
use Rattle.ltl_hoa.specs.HeaderView.{Refuses}
use Rattle.ltl_hoa.specs.BodyView.{BodyView}

-- ---- labels

-- the cubes of a normal form, unless a part has too many
abbrev pub narrow_normal : Normal → Option (List Cube)
narrow_normal N = if list_any (λ p. nat_lt stated_limits.label_cubes (length (cubes p))) (postorder N) then None else Some (cubes N)

-- those of a label, or of its negation
unfoldable pub narrow : Bool → Label → Option (List Cube)
narrow sign a = narrow_normal (normal_form sign (label_formula a))

abbrev pub is_odd : ℕ → Bool
is_odd zero = false
is_odd (suc n) = not (is_odd n)

abbrev pub shown_part : Bool → LabelPart → PartView
shown_part positive p =
    record { positive = positive; negated = is_odd p.negations; sum = option_map (narrow positive) p.sum; product = option_map (narrow positive) p.product }

-- whether an even number of negations stands around what these parts are around
abbrev pub sign_within : List LabelPart → Bool
sign_within [] = true
sign_within (p ∷ ps) = not (beq (sign_within ps) (is_odd p.negations))

abbrev pub shown_around : List LabelPart → List PartView
shown_around [] = []
shown_around (p ∷ ps) = shown_around ps ++ shown_part (sign_within ps) p ∷ []

abbrev pub shown_label : LabelParts → LabelView
shown_label p = record { inner = shown_part (sign_within p.around) p.inner; around = shown_around p.around }

-- ---- places

abbrev pub ShowsBodyPlace : BodyPlace → BodyView → spec.BodyPlace → Type 0
ShowsBodyPlace at.State b spec.AtState = ⊤
ShowsBodyPlace at.Number b spec.AtNumber = ⊤
ShowsBodyPlace at.AfterNumber b spec.AfterNumber = ⊤
ShowsBodyPlace at.AfterName b spec.AfterName = ⊤
ShowsBodyPlace at.StateSets b spec.InStateSets = ⊤
ShowsBodyPlace at.Edge b spec.AtEdge = ⊤
ShowsBodyPlace at.Target b spec.AtTarget = ⊤
ShowsBodyPlace at.AfterTarget b spec.AfterTarget = ⊤
ShowsBodyPlace at.EdgeSets b spec.InEdgeSets = ⊤
ShowsBodyPlace at.Operand b (spec.AtOperand p) = b.label ≡ shown_label p
ShowsBodyPlace at.AfterOperand b (spec.AfterOperand p) = b.label ≡ shown_label p
ShowsBodyPlace _ b _ = ⊥

-- ---- the body

-- whether the last edge isn't among those of its state yet
abbrev pub is_open : spec.BodyPlace → Bool
is_open spec.AfterTarget = true
is_open spec.InEdgeSets = true
is_open _ = false

-- the edges are those that came
abbrev pub AreFiled : BodyView → List CameEdge → Type 0
AreFiled b es = (k : ℕ) → k < b.counts.states → slice_index_or b.edges k [] ≡ edges_of k es

-- but for the last one
abbrev pub AreOpen : BodyView → List CameEdge → Type 0
AreOpen b [] = ⊥
AreOpen b (e ∷ es) = AreFiled b es × (e.state ≡ b.at) × (e.cubes ≡ b.cubes) × (e.target ≡ b.target) × (set_of nat_cmp e.sets ≡ b.own)

abbrev pub AreAt : Bool → BodyView → List CameEdge → Type 0
AreAt true b es = AreOpen b es
AreAt false b es = AreFiled b es

-- the counts of the header
pub record ShowsCounts (c : Counts) (h : HoaHeader) : Type 0 where
  pub states : h.states ≡ Some c.states
  pub few_states : c.states ≤ stated_limits.hoa_states
  pub sets : h.sets ≡ Some c.sets
  pub names : option_map length h.names ≡ Some c.names
  pub well : (c.names ≤ stated_limits.propositions) × (c.sets ≤ MOST_SETS)

-- which of so many states have stood, and the last of them
pub record ShowsStates (count : ℕ) (defined : List Bool) (at : ℕ) (numbers : List ℕ) : Type 0 where
  pub stood : (k : ℕ) → k < count → slice_index_or defined k false ≡ list_any (λ m. m == k) numbers
  pub counted : length defined ≡ count
  pub last : (first_or 0 numbers ≡ at) × (at < count)

-- the counts, the states, a place for each of them, how many edges, the last sets and cubes, and the edges are those of the definition
abbrev pub ShowsBody : BodyView → spec.BodyPlace → Before → Came → Type 0
ShowsBody v place b g =
    ShowsCounts v.counts b.header × ShowsStates v.counts.states v.defined v.at b.numbers × (length v.edges ≡ v.counts.states) × (b.edges ≡ v.made)
    × (set_of nat_cmp g.sets ≡ v.sets) × (g.cubes ≡ v.cubes) × AreAt (is_open place) v g.edges

-- the next place, or the end, and the body show the definition's
abbrev pub IsAt : Place → BodyView → spec.Place → Before → Came → Type 0
IsAt (place.Body p) v (spec.InBody q) b g = ShowsBodyPlace p v q × ShowsBody v q b g
IsAt place.End v spec.AtEnd b g = ShowsBody v spec.AtState b g
IsAt _ v _ b g = ⊥

-- ---- steps of the definition

-- the place and the body show what the step came to
abbrev pub Leads : Step → Before → Came → Result Place Stop → BodyView → Type 0
Leads (Ok c) b g (Ok place) new = IsAt place new c.place c g × (c.header ≡ b.header)
Leads (Ok c) b g (Err stop) new = stop ≡ OutOfMemory
Leads (Err kind) b g (Ok place) new = ⊥
Leads (Err kind) b g (Err stop) new = Refuses kind stop

-- they do so behind a token at a place of the definition, wherever the body showed it before
abbrev pub StepsAt : spec.BodyPlace → BodyView → HoaToken → Result Place Stop → BodyView → Type 0
StepsAt q v t r w = (b : Before) (g : Came) → ShowsBody v q b g → Leads (step_in_body stated_limits q (record b { place = spec.InBody q }) t) b (came_in q b t g) r w

-- in a label, at an operand and behind one
abbrev pub StepsInLabel : (LabelParts → spec.BodyPlace) → BodyView → HoaToken → Result Place Stop → BodyView → Type 0
StepsInLabel place v t r w = (p : LabelParts) → v.label ≡ shown_label p → StepsAt (place p) v t r w

-- a token other than `--ABORT--` at its place, and any one
abbrev pub TakesAt : BodyPlace → BodyView → HoaToken → Result Place Stop → BodyView → Type 0
TakesAt place v t r w = (q : spec.BodyPlace) → ShowsBodyPlace place v q → StepsAt q v t r w

abbrev pub Takes : BodyPlace → BodyView → HoaToken → Result Place Stop → BodyView → Type 0
Takes place v t r w =
    (q : spec.BodyPlace) → ShowsBodyPlace place v q → (b : Before) (g : Came) → ShowsBody v q b g
    → Leads (step_unless_abort stated_limits q (record b { place = spec.InBody q }) t) b (came_in q b t g) r w
