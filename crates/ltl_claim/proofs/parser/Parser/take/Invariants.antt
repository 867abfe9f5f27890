use Rattle.std.proofs.Common.{◌≡◌, List, length}
use Rattle.std.specs.Prelude.{false}
use Rattle.ltl_spec.specs.Semantics.Word.{Name}
use Rattle.ltl_spec.specs.Formulas.Tokens.{same_name}
use Rattle.ltl_spec.specs.Collections.Lists.{first_occurrences}
use Rattle.ltl_claim.specs.ClaimStep.{step}
use Rattle.ltl_claim.specs.TokenView.{item_of}
use Rattle.ltl_claim.specs.SymbolView.{symbols_of}
use Rattle.ltl_claim.specs.ProgramView.{built_of}
use Rattle.ltl_claim.proofs.parser.Parser.take.Given as goal

abbrev pub invariant-symbols : goal.invariant-symbols
invariant-symbols g l =
    (all : List Name) → l.fn.self.names ≡ first_occurrences same_name all → (more : List Name) × (l.self.names ≡ first_occurrences same_name more)
    × (step l.labels false (item_of l.token) (symbols_of l.fn.self.symbols) (built_of all l.fn.self.built) ≡ step l.labels l.in_list (item_of l.token) (symbols_of l.self.symbols) (built_of more l.self.built))

abbrev pub decreases-symbols : goal.decreases-symbols
decreases-symbols g l = length l.self.symbols
