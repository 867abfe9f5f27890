-- The symbols of the code as symbols of the definitions.
use Rattle.std.specs.Prelude.{Bool, true, false, List, [], ◌∷◌, fold, Option, Some, None}
use Rattle.ltl_spec.specs.Claims.ClaimProgram as program
use Rattle.ltl_spec.specs.Claims.ClaimMachine as spec
use Rattle.ltl_spec.specs.Claims.ClaimMachine.{Built}
use Rattle.ltl_claim.specs.declared.token.TokenKind.{TokenKind}
use Rattle.ltl_claim.specs.declared.token.TokenKind.TheVariants as kind
use Rattle.ltl_claim.specs.declared.symbol.Action.{Action}
use Rattle.ltl_claim.specs.declared.symbol.Action.TheVariants as act
use Rattle.ltl_claim.specs.declared.symbol.Symbol.{Symbol}
use Rattle.ltl_claim.specs.declared.symbol.Symbol.TheVariants as code

-- what an action does
abbrev pub done : Action → Built → Option Built
done (act.Constant b) = spec.pushed (program.Constant b)
done (act.Name n) = spec.named n.now
done act.Negate = spec.negated
done act.JoinAnd = spec.joined program.And
done act.JoinOr = spec.joined program.Or
done (act.Test inside) = spec.one_tested program.Test inside
done (act.Check inside) = spec.one_tested program.Check inside
done (act.Both inside) = spec.both_tested inside
done (act.Label l) = spec.label_found l.now
done (act.Leave inside) = spec.jumped inside program.Leave []
done (act.Jump inside l) = spec.jumped inside (program.Jump l.now) (l.now ∷ [])
done act.Otherwise = spec.otherwise
done (act.Open loops) = spec.opened loops
done act.Close = spec.closed

abbrev pub symbol_of : Symbol → spec.Symbol
symbol_of code.Title = spec.Title
symbol_of code.AnItem = spec.AnItem
symbol_of code.AStatement = spec.AStatement
symbol_of code.Options = spec.Options
symbol_of code.AFirst = spec.AFirst
symbol_of code.AGuard = spec.AGuard
symbol_of code.AnOperand = spec.AnOperand
symbol_of code.Separators = spec.Separators
symbol_of code.InNever = spec.InNever
symbol_of code.InAssert = spec.InAssert
symbol_of code.InFi = spec.InFi
symbol_of code.InOd = spec.InOd
symbol_of code.InOpenBrace = spec.InOpenBrace
symbol_of code.InCloseBrace = spec.InCloseBrace
symbol_of code.InOpenBracket = spec.InOpenBracket
symbol_of code.InCloseBracket = spec.InCloseBracket
symbol_of code.InColon = spec.InColon
symbol_of code.MayAnother = spec.May spec.Another
symbol_of code.MayMore = spec.May spec.More
symbol_of code.MayOptions = spec.May spec.Options
symbol_of code.MayConjunct = spec.May spec.Conjunct
symbol_of code.MayDisjunct = spec.May spec.Disjunct
symbol_of code.MaySeparators = spec.May spec.Separators
symbol_of (code.JumpTo inside) = spec.JumpTo inside
symbol_of (code.Now a) = spec.Now (done a)

abbrev pub with_symbol : List spec.Symbol → Symbol → List spec.Symbol
with_symbol ss s = symbol_of s ∷ ss

-- the stack, whose top is its last element
abbrev pub symbols_of : List Symbol → List spec.Symbol
symbols_of ss = fold with_symbol [] ss

-- the token that a symbol is by itself
abbrev pub alone_of : Symbol → Option TokenKind
alone_of code.InNever = Some kind.Never
alone_of code.InAssert = Some kind.Assert
alone_of code.InFi = Some kind.Fi
alone_of code.InOd = Some kind.Od
alone_of code.InOpenBrace = Some kind.OpenBrace
alone_of code.InCloseBrace = Some kind.CloseBrace
alone_of code.InOpenBracket = Some kind.OpenBracket
alone_of code.InCloseBracket = Some kind.CloseBracket
alone_of code.InColon = Some kind.Colon
alone_of s = None

-- where the first part of an option begins
abbrev pub is_first : spec.Symbol → Bool
is_first spec.AFirst = true
is_first s = false
