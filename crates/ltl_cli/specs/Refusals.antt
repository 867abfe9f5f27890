-- The refusals of the code as refusals of the definitions.
use Rattle.std.specs.Prelude.{◌≡◌, Result, MatchResult, Ok, Err, ◌⊎◌}
use Rattle.ltl_spec.specs.Tools.Refusal as spec
use Rattle.ltl_syntax.specs.ParserView.{kind_of}
use Rattle.ltl_syntax.specs.declared.fault.ReadFault as read
use Rattle.ltl_formula.specs.declared.build_fault.BuildFault as build
use Rattle.ltl_automaton.specs.declared.fault.AutomatonFault as translation
use Rattle.ltl_word.specs.declared.fault.WordFault as word
use Rattle.ltl_hoa.specs.TokenView as hoa_view
use Rattle.ltl_hoa.specs.declared.fault.HoaFault as hoa
use Rattle.ltl_check.specs.declared.fault.CheckFault as check
use Rattle.ltl_words.specs.declared.request.PlanFault as plan
use Rattle.ltl_cli.specs.declared.refusal.Refusal.{Refusal}
use Rattle.ltl_cli.specs.declared.refusal.Refusal.TheVariants.{Usage, CannotOpen, CannotRead, CannotWrite, OutOfMemory, LongFormula, BadFormula, TooManyPropositions, TooManyRows, TooManyElementaryRows, LargeAutomaton, LongWord, BadWord, BadAutomaton, LargeProduct}

abbrev pub refusal_of : Refusal → spec.Refusal
refusal_of Usage = spec.Usage
refusal_of CannotOpen = spec.CannotOpen
refusal_of CannotRead = spec.CannotRead
refusal_of CannotWrite = spec.CannotWrite
refusal_of OutOfMemory = spec.OutOfMemory
refusal_of LongFormula = spec.LongFormula
refusal_of (BadFormula place kind) = spec.BadFormula place (kind_of kind)
refusal_of TooManyPropositions = spec.TooManyPropositions
refusal_of TooManyRows = spec.TooManyRows
refusal_of TooManyElementaryRows = spec.TooManyElementaryRows
refusal_of LargeAutomaton = spec.LargeAutomaton
refusal_of LongWord = spec.LongWord
refusal_of (BadWord place) = spec.BadWord place
refusal_of (BadAutomaton line kind) = spec.BadAutomaton line (hoa_view.kind_of kind)
refusal_of LargeProduct = spec.LargeProduct

-- the refusals for the faults of the layers

abbrev pub of_plan : plan.PlanFault → Refusal
of_plan plan.TheVariants.Usage = Usage
of_plan plan.TheVariants.OutOfMemory = OutOfMemory

abbrev pub of_read : read.ReadFault → Refusal
of_read read.TheVariants.TooLong = LongFormula
of_read (read.TheVariants.AtByte place kind) = BadFormula place kind
of_read read.TheVariants.TooManyPropositions = TooManyPropositions
of_read read.TheVariants.OutOfMemory = OutOfMemory

abbrev pub of_build : build.BuildFault → Refusal
of_build build.TheVariants.TooManyRows = TooManyRows
of_build build.TheVariants.TooManyElementaryRows = TooManyElementaryRows
of_build build.TheVariants.OutOfMemory = OutOfMemory

abbrev pub of_translation : translation.AutomatonFault → Refusal
of_translation translation.TheVariants.TooLarge = LargeAutomaton
of_translation translation.TheVariants.OutOfMemory = OutOfMemory

abbrev pub of_word : word.WordFault → Refusal
of_word word.TheVariants.TooLong = LongWord
of_word (word.TheVariants.BadWord place) = BadWord place
of_word word.TheVariants.TooManyPropositions = TooManyPropositions
of_word word.TheVariants.OutOfMemory = OutOfMemory

abbrev pub of_hoa : hoa.HoaFault → Refusal
of_hoa (hoa.TheVariants.AtLine line kind) = BadAutomaton line kind
of_hoa hoa.TheVariants.CannotRead = CannotRead
of_hoa hoa.TheVariants.OutOfMemory = OutOfMemory

abbrev pub of_check : check.CheckFault → Refusal
of_check check.TheVariants.TooManyPropositions = TooManyPropositions
of_check check.TheVariants.ProductTooLarge = LargeProduct
of_check check.TheVariants.OutOfMemory = OutOfMemory

-- A step of the definitions taken by code: the code has its value, or answers its refusal. Memory may be refused at any step
abbrev pub TakesStep : {A F : Type 0} → (Result A spec.Refusal → Type 0) → (F → A) → Result F Refusal → Type 0
TakesStep Step view r = MatchResult r (λ f. Step (Ok (view f))) (λ e. (e ≡ OutOfMemory) ⊎ Step (Err (refusal_of e)))
