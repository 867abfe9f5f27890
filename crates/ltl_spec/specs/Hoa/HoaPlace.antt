-- What may come next in an automaton's text, and what stood before it.
use Rattle.std.specs.Prelude.{ℕ, zero, suc, true, List, [], Option, Some, None, unwrap_or}
use Rattle.ltl_spec.specs.Semantics.Word.{Name}
use Rattle.ltl_spec.specs.Hoa.HoaToken.{HoaToken}
use Rattle.ltl_spec.specs.Hoa.HoaLabel.{Label, ConstantLabel, NotLabel, AndLabel, OrLabel}

-- the items that have stood in the header
pub record HoaHeader : Type 0 where
  pub states : Option ℕ
  pub start : Option ℕ
  pub names : Option (List Name)
  pub sets : Option ℕ

-- the item before the place where another one may begin
pub data ItemBefore : Type 0 where
  PlainItem StartNumber ListedNames Acceptance OtherItem : ItemBefore

-- A label, or what stands in its open brackets: what `|` and what `&` join to the operand that comes next, and the number of `!` before it
pub record LabelPart : Type 0 where
  pub sum : Option Label
  pub product : Option Label
  pub negations : ℕ

-- the innermost part, and those around it
pub record LabelParts : Type 0 where
  pub inner : LabelPart
  pub around : List LabelPart

-- what may come next in the body
pub data BodyPlace : Type 0 where
  AtState AtNumber AfterNumber AfterName InStateSets AtEdge AtTarget AfterTarget InEdgeSets : BodyPlace
  AtOperand AfterOperand : LabelParts → BodyPlace

-- what may come next: so many names of the list, just these tokens of `Acceptance:`, an item or the body behind the item before
pub data Place : Type 0 where
  AtFormat AtVersion AtStates AtStart AtCount AtSets AtEnd : Place
  AtNames : ℕ → Place
  InAcceptance : List HoaToken → Place
  AtItem : ItemBefore → Place
  InBody : BodyPlace → Place

-- the place, the header so far, the numbers of the states so far, and how many cubes their labels have
pub record Before : Type 0 where
  pub place : Place
  pub header : HoaHeader
  pub numbers : List ℕ
  pub edges : ℕ

-- nothing has stood yet
abbrev pub no_header : HoaHeader
no_header = record { states = None; start = None; names = None; sets = None }

abbrev pub before_all : Before
before_all = record { place = AtFormat; header = no_header; numbers = []; edges = 0 }

abbrev pub empty_part : LabelPart
empty_part = record { sum = None; product = None; negations = 0 }

abbrev pub negated : ℕ → Label → Label
negated zero a = a
negated (suc n) a = NotLabel (negated n a)

-- an operand behind what an operator joins to it
abbrev pub joined : (Label → Label → Label) → Option Label → Label → Label
joined f None a = a
joined f (Some b) a = f b a

abbrev pub with_operand : LabelPart → Label → LabelPart
with_operand p a = record p { product = Some (joined AndLabel p.product (negated p.negations a)); negations = 0 }

-- the part as a label, behind an operand
abbrev pub whole : LabelPart → Label
whole p = joined OrLabel p.sum (unwrap_or p.product (ConstantLabel true))
