-- The errors of the steps of a comparison as errors of the comparison.
use Rattle.ltl_formula.specs.declared.build_fault.BuildFault as build
use Rattle.ltl_automaton.specs.declared.fault.AutomatonFault as translation
use Rattle.ltl_check.specs.declared.fault.CheckFault as check
use Rattle.ltl_compare.specs.declared.fault.CompareFault.{CompareFault}
use Rattle.ltl_compare.specs.declared.fault.CompareFault.TheVariants.{TooManyRows, TooManyElementaryRows, TooLarge, TooManyPropositions, ProductTooLarge, OutOfMemory}

abbrev pub of_build : build.BuildFault → CompareFault
of_build build.TheVariants.TooManyRows = TooManyRows
of_build build.TheVariants.TooManyElementaryRows = TooManyElementaryRows
of_build build.TheVariants.OutOfMemory = OutOfMemory

abbrev pub of_translation : translation.AutomatonFault → CompareFault
of_translation translation.TheVariants.TooLarge = TooLarge
of_translation translation.TheVariants.OutOfMemory = OutOfMemory

abbrev pub of_check : check.CheckFault → CompareFault
of_check check.TheVariants.TooManyPropositions = TooManyPropositions
of_check check.TheVariants.ProductTooLarge = ProductTooLarge
of_check check.TheVariants.OutOfMemory = OutOfMemory
