-- The refusals of the code as refusals of the definitions.
use Rattle.ltl_spec.specs.Tools.Comparer as spec
use Rattle.ltl_compare.specs.declared.fault.CompareFault.{CompareFault}
use Rattle.ltl_compare.specs.declared.fault.CompareFault.TheVariants as fault
use Rattle.ltl_words.specs.declared.request.PlanFault.{PlanFault}
use Rattle.ltl_cli.specs.Refusals.{of_plan}
use Rattle.ltl_cli.specs.declared.refusal.Refusal.{Refusal}
use Rattle.ltl_cli.specs.declared.refusal.Refusal.TheVariants.{CannotWrite, LargeAutomaton, LargeProduct, OutOfMemory, TooManyElementaryRows, TooManyPropositions, TooManyRows}
use Rattle.ltl_comparison.specs.declared.refusal.Refused.{Refused}
use Rattle.ltl_comparison.specs.declared.refusal.Subject as code
use Rattle.ltl_comparison.specs.declared.refusal.Subject.TheVariants.{First, Second, Other}

abbrev pub subject_in : code.Subject → spec.Subject
subject_in First = spec.First
subject_in Second = spec.Second
subject_in Other = spec.Other

abbrev pub in_words : PlanFault → Refused
in_words fault = record { subject = Other; refusal = of_plan fault }

abbrev pub not_written : Refused
not_written = record { subject = Other; refusal = CannotWrite }

abbrev pub comparison_refusal : CompareFault → Refusal
comparison_refusal fault.TooManyRows = TooManyRows
comparison_refusal fault.TooManyElementaryRows = TooManyElementaryRows
comparison_refusal fault.TooLarge = LargeAutomaton
comparison_refusal fault.TooManyPropositions = TooManyPropositions
comparison_refusal fault.ProductTooLarge = LargeProduct
comparison_refusal fault.OutOfMemory = OutOfMemory

abbrev pub of_compare : CompareFault → Refused
of_compare fault = record { subject = Other; refusal = comparison_refusal fault }
