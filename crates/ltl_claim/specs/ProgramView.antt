-- The program so far as the definitions see it.
use Rattle.std.specs.Prelude.{◌≡◌, ℕ, ◌<◌, Bool, true, false, if◌then◌else◌, List, [], ◌∷◌, ◌++◌, fold, length, map, sum_by, slice_get, slice_index_or, Option, Some, None, Result, Ok, Err}
use Rattle.ltl_spec.specs.Semantics.Word.{Name}
use Rattle.ltl_spec.specs.Claims.ClaimProgram as spec
use Rattle.ltl_spec.specs.Claims.ClaimMachine as machine
use Rattle.ltl_spec.specs.Claims.ClaimMachine.{Built, changed}
use Rattle.ltl_claim.specs.Soundness.{AllOf}
use Rattle.ltl_claim.specs.declared.program.NamedStep.{NamedStep}
use Rattle.ltl_claim.specs.declared.program.NamedStep.TheVariants as step
use Rattle.ltl_claim.specs.declared.program.Hole.{Hole}
use Rattle.ltl_claim.specs.declared.program.Hole.TheVariants as hole
use Rattle.ltl_claim.specs.declared.program.Link.{Link}
use Rattle.ltl_claim.specs.declared.program.Link.TheVariants as link
use Rattle.ltl_claim.specs.declared.program.First.{First}
use Rattle.ltl_claim.specs.declared.program.First.TheVariants as first

-- ---- the code's values

pub data StepView : Type 0 where
  ConstantStep : Bool → StepView
  NameStep : Name → StepView
  NotStep AndStep OrStep : StepView

-- what an option begins with, its guards apart
pub data KindView : Type 0 where
  TestKind CheckKind BothKind OtherwiseKind : KindView
  LeapKind : spec.Link → KindView

pub record OptionView : Type 0 where
  pub kind : KindView
  pub steps : List StepView
  pub next : spec.Link

pub record StatementView : Type 0 where
  pub around : Option ℕ
  pub loops : Bool
  pub options : List OptionView
  pub next : spec.Link

-- what is built, but for the names of its propositions. The innermost selection is the last
pub record BuiltView : Type 0 where
  pub steps : List StepView
  pub selections : List ℕ
  pub hole : machine.Hole
  pub start : spec.Link
  pub statements : List StatementView
  pub labels : List spec.ClaimLabel
  pub gotos : List Name

abbrev pub hole_of : Hole → machine.Hole
hole_of hole.AtStart = machine.AtStart
hole_of hole.Nowhere = machine.Nowhere
hole_of (hole.BehindStatement i) = machine.BehindStatement i
hole_of (hole.WithinOption i j) = machine.WithinOption i j

abbrev pub link_of : Link → spec.Link
link_of (link.Go i) = spec.Go i
link_of (link.Jump l) = spec.Jump l.now
link_of link.Leave = spec.Leave
link_of link.Nothing = spec.Nothing

abbrev pub step_of : NamedStep → StepView
step_of (step.Constant b) = ConstantStep b
step_of (step.Named n) = NameStep n.now
step_of step.Not = NotStep
step_of step.And = AndStep
step_of step.Or = OrStep

abbrev pub first_kind : First → KindView
first_kind first.Test = TestKind
first_kind first.Check = CheckKind
first_kind first.Both = BothKind
first_kind first.Otherwise = OtherwiseKind
first_kind (first.Leaps k) = LeapKind (link_of k)

abbrev pub label_of : {X : Type 0} → (X → Name) → X × ℕ → spec.ClaimLabel
label_of name e = record { name = name e.0; statement = e.1 }

-- ---- what they stand for

-- the guards behind one more step, the last one first
abbrev pub with_step : List spec.Guard → StepView → List spec.Guard
with_step gs (ConstantStep b) = spec.Constant b ∷ gs
with_step gs (NameStep n) = spec.Named n ∷ gs
with_step (g ∷ gs) NotStep = spec.Not g ∷ gs
with_step (h ∷ g ∷ gs) AndStep = spec.And g h ∷ gs
with_step (h ∷ g ∷ gs) OrStep = spec.Or g h ∷ gs
with_step gs s = gs

abbrev pub guards_of : List StepView → List spec.Guard
guards_of steps = fold with_step [] steps

-- a guard in postfix order
abbrev pub named_steps : spec.Guard → List StepView
named_steps (spec.Constant b) = ConstantStep b ∷ []
named_steps (spec.Named n) = NameStep n ∷ []
named_steps (spec.Not g) = named_steps g ++ NotStep ∷ []
named_steps (spec.And g h) = (named_steps g ++ named_steps h) ++ AndStep ∷ []
named_steps (spec.Or g h) = (named_steps g ++ named_steps h) ++ OrStep ∷ []

-- guards in postfix order, one after the other. The first one in the list comes last
abbrev pub written : List spec.Guard → List StepView
written [] = []
written (g ∷ gs) = written gs ++ named_steps g

-- the steps are those of so many guards
pub record AreGuards (depth : ℕ) (steps : List StepView) : Type 0 where
  pub count : depth ≡ length (guards_of steps)
  pub whole : steps ≡ written (guards_of steps)

abbrev pub no_statement : StatementView
no_statement = record { around = None; loops = false; options = []; next = spec.Nothing }

-- 1 for the number of a `do`, and 0 for another one
abbrev pub loop_at : List StatementView → ℕ → ℕ
loop_at ss i = if (slice_index_or ss i no_statement).loops then 1 else 0

-- the open selections are statements, and so many of them are a `do`
pub record AreOpen (loops : ℕ) (selections : List ℕ) (ss : List StatementView) : Type 0 where
  pub count : loops ≡ sum_by (loop_at ss) selections
  pub stated : AllOf (λ i. i < length ss) selections

-- the steps are those of the guards that such an option begins with
abbrev pub HoldsGuards : KindView → List StepView → Type 0
HoldsGuards TestKind steps = (g : spec.Guard) × (steps ≡ named_steps g)
HoldsGuards CheckKind steps = (g : spec.Guard) × (steps ≡ named_steps g)
HoldsGuards BothKind steps = (g h : spec.Guard) × (steps ≡ named_steps g ++ named_steps h)
HoldsGuards kind steps = Unit {0}

-- with its guards, the last one first
abbrev pub first_of : KindView → List spec.Guard → spec.First
first_of TestKind (g ∷ gs) = spec.Test g
first_of CheckKind (g ∷ gs) = spec.Check g
first_of BothKind (h ∷ g ∷ gs) = spec.Both g h
first_of OtherwiseKind gs = spec.Otherwise
first_of (LeapKind k) gs = spec.Leaps k
first_of f gs = spec.Test (spec.Constant false)

abbrev pub option_of : OptionView → spec.ClaimOption
option_of o = record { first = first_of o.kind (guards_of o.steps); next = o.next }

abbrev pub statement_of : StatementView → spec.Statement
statement_of s = record { around = s.around; loops = s.loops; options = map option_of s.options; next = s.next }

-- the numbers, the last one first
abbrev pub with_top : List ℕ → ℕ → List ℕ
with_top ns n = n ∷ ns

abbrev pub topped : List ℕ → List ℕ
topped ns = fold with_top [] ns

abbrev pub program_of : List Name → BuiltView → spec.Program
program_of names v = record { start = v.start; statements = map statement_of v.statements; labels = v.labels; gotos = v.gotos; names = names }

abbrev pub built_of : List Name → BuiltView → Built
built_of names v = record { guards = guards_of v.steps; selections = topped v.selections; hole = v.hole; program = program_of names v }

-- ---- changes

abbrev pub nothing_built : BuiltView
nothing_built = record { steps = []; selections = []; hole = machine.AtStart; start = spec.Nothing; statements = []; labels = []; gotos = [] }

abbrev pub is_otherwise : OptionView → Bool
is_otherwise o = elim o.kind [ OtherwiseKind ↦ true | _ ↦ false ]

abbrev pub new_option : KindView → List StepView → OptionView
new_option kind steps = record { kind = kind; steps = steps; next = spec.Nothing }

abbrev pub next_set : spec.Link → StatementView → StatementView
next_set k s = record s { next = k }

abbrev pub option_next_set : ℕ → spec.Link → StatementView → StatementView
option_next_set j k s = record s { options = changed (λ o. record o { next = k }) j s.options }

abbrev pub option_added : OptionView → StatementView → StatementView
option_added o s = record s { options = s.options ++ o ∷ [] }

-- what comes next was linked at the hole
abbrev pub start_linked : machine.Hole → spec.Link → spec.Link → spec.Link
start_linked machine.AtStart k start = k
start_linked h k start = start

abbrev pub statements_linked : machine.Hole → spec.Link → List StatementView → List StatementView
statements_linked (machine.BehindStatement i) k ss = changed (next_set k) i ss
statements_linked (machine.WithinOption i j) k ss = changed (option_next_set j k) i ss
statements_linked h k ss = ss

abbrev pub with_link : spec.Link → BuiltView → BuiltView
with_link k v = record v { start = start_linked v.hole k v.start; statements = statements_linked v.hole k v.statements }

-- a statement was added
abbrev pub new_statement : Bool → List OptionView → BuiltView → StatementView
new_statement loops options v = record { around = slice_get (topped v.selections) 0; loops = loops; options = options; next = spec.Nothing }

abbrev pub with_statement : Bool → List OptionView → BuiltView → BuiltView
with_statement loops options v =
    let i = length v.statements in
    record (with_link (spec.Go i) v) { hole = machine.BehindStatement i; statements = statements_linked v.hole (spec.Go i) v.statements ++ new_statement loops options v ∷ [] }

-- an option of this selection was begun
abbrev pub with_option : ℕ → OptionView → BuiltView → BuiltView
with_option i o v = record v { hole = machine.WithinOption i (length (slice_index_or v.statements i no_statement).options); statements = changed (option_added o) i v.statements }

-- a jump, with its words noted before
abbrev pub jump_made : Bool → spec.Link → Built → Option Built
jump_made true k b = machine.option_begun (spec.Leaps k) b
jump_made false k b = Some (record b { hole = machine.Nowhere; program = machine.linked b.hole k b.program })

-- an action was done, or it can't be done
abbrev pub Acts : {E : Type 0} → (Built → Option Built) → BuiltView → Result Bool E → BuiltView → Type 0
Acts f v (Ok true) w = (names : List Name) → f (built_of names v) ≡ Some (built_of names w)
Acts f v (Ok false) w = (names : List Name) → f (built_of names v) ≡ None
Acts f v (Err e) w = Unit {0}
