-- The state of the parser as a state of the definitions' parser.
use Rattle.std.specs.Prelude.{◌≡◌, ℕ, suc, ◌+◌, ◌-◌, ◌<◌, Bool, true, false, if◌then◌else◌, nat_le, List, [], ◌∷◌, fold, length, Option, Some, None, Result, Ok, Err}
use Rattle.std.specs.List.{flat_map}
use Rattle.ltl_spec.specs.Semantics.Word.{Name}
use Rattle.ltl_spec.specs.Formulas.Formula as spec
use Rattle.ltl_spec.specs.Formulas.Grammar.{rank_of}
use Rattle.ltl_spec.specs.Formulas.Fault as fault
use Rattle.ltl_spec.specs.Formulas.Tokens as tokens
use Rattle.ltl_spec.specs.Formulas.GrammarMachine as machine
use Rattle.ltl_spec.specs.Formulas.Outline.{outline}
use Rattle.ltl_spec.specs.Formulas.Outline.{kind_at, kind_before}
use Rattle.ltl_spec.specs.Formulas.Names.{with_name}
use Rattle.ltl_syntax.specs.declared.operators.Node.{Node}
use Rattle.ltl_syntax.specs.declared.operators.Node.TheVariants.{Unary, Binary}
use Rattle.ltl_syntax.specs.declared.parser.Frame.{Frame}
use Rattle.ltl_syntax.specs.declared.parser.Frame.TheVariants.{Bracket, Prefix, Pending}
use Rattle.ltl_syntax.specs.declared.fault.FaultKind.{FaultKind}
use Rattle.ltl_syntax.specs.declared.fault.FaultKind.TheVariants.{UnexpectedByte, ExpectedOperand, ExpectedOperatorOrEnd, ExpectedCloseOrOperator}
use Rattle.ltl_syntax.specs.declared.fault.ReadFault.{ReadFault}
use Rattle.ltl_syntax.specs.declared.fault.ReadFault.TheVariants.{AtByte, OutOfMemory}
use Rattle.ltl_syntax.specs.FormulaView.{unary_of, binary_of, operands_of, times, tree_in, trees, whole_tree}
use Rattle.ltl_syntax.specs.CanonicalWork.{HasOperands}

-- the kind of a fault
abbrev pub kind_of : FaultKind → fault.FaultKind
kind_of UnexpectedByte = fault.UnexpectedByte
kind_of ExpectedOperand = fault.ExpectedOperand
kind_of ExpectedOperatorOrEnd = fault.ExpectedOperatorOrEnd
kind_of ExpectedCloseOrOperator = fault.ExpectedCloseOrOperator

-- what was read so far
pub record ParserView : Type 0 where
  pub nodes : List Node
  pub frames : List Frame
  pub names : List Name
  pub has_operand : Bool

abbrev pub frame_of : List spec.Formula → Frame → machine.Frame
frame_of ts Bracket = machine.Bracket
frame_of ts (Prefix op) = machine.Prefix (unary_of op)
frame_of ts (Pending i op) = machine.Pending (tree_in ts i) (binary_of op)

abbrev pub is_bracket : Frame → Bool
is_bracket Bracket = true
is_bracket _ = false

abbrev pub with_frame : List spec.Formula → List machine.Frame → Frame → List machine.Frame
with_frame ts s f = frame_of ts f ∷ s

-- the frames, the last one on top
abbrev pub frames_of : List spec.Formula → List Frame → List machine.Frame
frames_of ts fs = fold (with_frame ts) [] fs

abbrev pub reader_of : ParserView → machine.Reader
reader_of p =
    if p.has_operand then machine.Having (whole_tree p.nodes) (frames_of (trees p.nodes) p.frames) else machine.Wanting (frames_of (trees p.nodes) p.frames)

-- a left operand is one of so many nodes
abbrev pub IsBelow : ℕ → Frame → Type 0
IsBelow count Bracket = Unit {0}
IsBelow count (Prefix op) = Unit {0}
IsBelow count (Pending i op) = i < count

abbrev pub AreBelow : ℕ → List Frame → Type 0
AreBelow count [] = Unit {0}
AreBelow count (f ∷ fs) = IsBelow count f × AreBelow count fs

-- the left operand that a frame holds
abbrev pub left_of : Frame → List ℕ
left_of (Pending i op) = i ∷ []
left_of _ = []

-- how often the number stands among the operands of nodes, the left operands of frames, and the operand that is complete
abbrev pub uses : List Node → List Frame → Bool → ℕ → ℕ
uses nodes frames has k = times k (flat_map operands_of nodes) + (times k (flat_map left_of frames) + (if has then times k ((length nodes - 1) ∷ []) else 0))

-- each node is there once, and no other number
abbrev pub AreUsedOnce : List Node → List Frame → Bool → Type 0
AreUsedOnce nodes frames has = (k : ℕ) → uses nodes frames has k ≡ (if nat_le (suc k) (length nodes) then 1 else 0)

-- operands stand before their nodes, an operand that is complete is a node, and each node is used once
pub record IsParsing (p : ParserView) : Type 0 where
  pub operands : HasOperands (length p.names) p.nodes
  pub once : AreUsedOnce p.nodes p.frames p.has_operand
  pub pending : AreBelow (length p.nodes) p.frames
  pub some : p.has_operand ≡ true → 0 < length p.nodes

-- the node that a frame and the operand on it make, if the frame closes at that rank
abbrev pub closed_node : Frame → ℕ → ℕ → Option Node
closed_node Bracket operand most = None
closed_node (Prefix op) operand most = Some (Unary op operand)
closed_node (Pending left op) operand most = if nat_le (rank_of (binary_of op)) most then Some (Binary op left operand) else None

-- a token that doesn't fit is told
abbrev pub RefusesToken : ParserView → tokens.Token → ℕ → ReadFault → Type 0
RefusesToken p t start (AtByte place kind) =
    (place ≡ start) × (kind_of kind ≡ kind_at (outline (reader_of p)) t) × (machine.read_step (with_name p.names t) (reader_of p) t ≡ None)
RefusesToken p t start OutOfMemory = Unit {0}
RefusesToken p t start _ = ⊥

-- a token that fits is taken
abbrev pub TakesToken : ParserView → tokens.Token → ℕ → Result (Unit {0}) ReadFault → ParserView → Type 0
TakesToken old t start (Ok _) new = (new.names ≡ with_name old.names t) × (machine.read_step new.names (reader_of old) t ≡ Some (reader_of new))
TakesToken old t start (Err e) new = RefusesToken old t start e

-- the end of the text may be at fault
abbrev pub RefusesEnd : ParserView → ℕ → ReadFault → Type 0
RefusesEnd p end (AtByte place kind) = (place ≡ end) × (kind_of kind ≡ kind_before (outline (reader_of p))) × (machine.finished (reader_of p) ≡ None)
RefusesEnd p end OutOfMemory = Unit {0}
RefusesEnd p end _ = ⊥

-- at the end of the text all is closed
abbrev pub FinishesAt : ParserView → ℕ → Result (Unit {0}) ReadFault → ParserView → Type 0
FinishesAt old end (Ok _) new = (machine.finished (reader_of old) ≡ Some (whole_tree new.nodes)) × (new.names ≡ old.names) × (0 < length new.nodes) × AreUsedOnce new.nodes [] true
FinishesAt old end (Err e) new = RefusesEnd old end e
