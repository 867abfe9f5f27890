-- The names of propositions as a list.
use Rattle.std.specs.Prelude.{List, map, string_bytes}
use Rattle.ltl_spec.specs.Semantics.Word.{Name}
use Rattle.ltl_text.specs.declared.names.Names.{Names}
use Rattle.ltl_text.specs.declared.names.Names.TheVariants.{OfFormula, Listed}

-- the names of the formula, or the bytes of those of the list
abbrev pub names_in : {A : Type 0} → Names A → List Name
names_in (OfFormula formula) = formula.now.names
names_in (Listed names) = map string_bytes names.now
