-- The answer to a text: a formula, or why it is refused.
use Rattle.std.specs.Prelude.{ℕ, ◌<◌, ◌≤◌, List, length}
use Rattle.ltl_spec.specs.Formulas.Formula.{Reading}
use Rattle.ltl_spec.specs.Formulas.Grammar.{IsTextOf}
use Rattle.ltl_spec.specs.Formulas.Fault.{IsFault}
use Rattle.ltl_spec.specs.Tools.Limits.{stated_limits}
use Rattle.ltl_syntax.specs.declared.fault.ReadFault.{ReadFault}
use Rattle.ltl_syntax.specs.declared.fault.ReadFault.TheVariants.{TooLong, AtByte, TooManyPropositions, OutOfMemory}
use Rattle.ltl_syntax.specs.FormulaView.{FormulaView, reading_of}
use Rattle.ltl_syntax.specs.ParserView.{kind_of}

-- the text is within the limits and reads as the formula
abbrev pub IsReadAs : List ℕ → FormulaView → Type 0
IsReadAs text f = (length text ≤ stated_limits.formula_bytes) × IsTextOf text (reading_of f) × (length f.names ≤ stated_limits.propositions)

-- the text is refused: its length first, then its fault, then the number of its propositions
abbrev pub IsRefusedFor : List ℕ → ReadFault → Type 0
IsRefusedFor text TooLong = stated_limits.formula_bytes < length text
IsRefusedFor text (AtByte place kind) = (length text ≤ stated_limits.formula_bytes) × IsFault text place (kind_of kind)
IsRefusedFor text TooManyPropositions = (length text ≤ stated_limits.formula_bytes) × ((R : Reading) × IsTextOf text R × (stated_limits.propositions < length R.names))
IsRefusedFor text OutOfMemory = length text ≤ stated_limits.formula_bytes

-- there are too many names, or memory runs out
abbrev pub RefusesNames : ℕ → ReadFault → Type 0
RefusesNames count TooManyPropositions = stated_limits.propositions < count
RefusesNames count OutOfMemory = Unit {0}
RefusesNames count _ = ⊥
