-- The tokens of the code as items of the definitions.
use Rattle.std.specs.Prelude.{ℕ, List, [], ◌∷◌, codes}
use Rattle.ltl_spec.specs.Claims.ClaimTokens as spec
use Rattle.ltl_claim.specs.declared.token.TokenKind.{TokenKind}
use Rattle.ltl_claim.specs.declared.token.TokenKind.TheVariants.{Word, Truth, Never, Assert, Atomic, Do, Od, If, Fi, Goto, Break, Else, OpenBrace, CloseBrace, OpenBracket, CloseBracket, OptionSign, Colon, Semicolon, Arrow, NotSign, AndSign, OrSign, Unequal, Foreign, Broken}
use Rattle.ltl_claim.specs.declared.token.Token.{Token}
use Rattle.ltl_claim.specs.declared.fault.ClaimFaultKind as code
use Rattle.ltl_claim.specs.ClaimItems as items
use Rattle.ltl_claim.specs.ClaimFault as fault

-- the token of that kind with that word
abbrev pub token_of : List ℕ → TokenKind → spec.ClaimToken
token_of word Word = spec.Word word
token_of word (Truth b) = spec.Truth b
token_of word Never = spec.Never
token_of word Assert = spec.Assert
token_of word Atomic = spec.Atomic
token_of word Do = spec.Do
token_of word Od = spec.Od
token_of word If = spec.If
token_of word Fi = spec.Fi
token_of word Goto = spec.Goto
token_of word Break = spec.Break
token_of word Else = spec.Else
token_of word OpenBrace = spec.OpenBrace
token_of word CloseBrace = spec.CloseBrace
token_of word OpenBracket = spec.OpenBracket
token_of word CloseBracket = spec.CloseBracket
token_of word OptionSign = spec.OptionSign
token_of word Colon = spec.Colon
token_of word Semicolon = spec.Separator
token_of word Arrow = spec.Separator
token_of word NotSign = spec.NotSign
token_of word AndSign = spec.AndSign
token_of word OrSign = spec.OrSign
token_of word Unequal = spec.NotSign
token_of word Foreign = spec.Foreign
token_of word Broken = spec.Foreign

-- what a message needs to know of a token of that kind
abbrev pub tell_of : TokenKind → items.Tell
tell_of Arrow = items.Arrow
tell_of Unequal = items.Known
tell_of Foreign = items.Known
tell_of Broken = items.Broken
tell_of kind = items.Plain

abbrev pub item_of : Token → items.ClaimItem
item_of t = record { token = token_of t.word.now t.kind; tell = tell_of t.kind; at = t.at }

-- the kind of a fault
abbrev pub kind_of : code.ClaimFaultKind → fault.ClaimFaultKind
kind_of code.TheVariants.NotANeverClaim = fault.NotANeverClaim
kind_of code.TheVariants.Unsupported = fault.Unsupported
kind_of code.TheVariants.BadName = fault.BadName
kind_of code.TheVariants.LabelTwice = fault.LabelTwice
kind_of code.TheVariants.ElseTwice = fault.ElseTwice
kind_of code.TheVariants.BreakOutsideOfDo = fault.BreakOutsideOfDo
kind_of code.TheVariants.UndefinedLabel = fault.UndefinedLabel
kind_of code.TheVariants.TextAfterEnd = fault.TextAfterEnd
kind_of code.TheVariants.LimitPassed = fault.LimitPassed
kind_of code.TheVariants.BadToken = fault.BadToken

-- of a word or a number
abbrev pub foreign_tell : spec.ClaimToken → items.Tell
foreign_tell spec.Foreign = items.Known
foreign_tell t = items.Plain

-- the words of Promela in four parts
abbrev pub words_to_c : List (List ℕ)
words_to_c =
    codes "active" ∷ codes "assert" ∷ codes "atomic" ∷ codes "bit" ∷ codes "bool" ∷ codes "break" ∷ codes "byte" ∷ codes "c_code" ∷
    codes "c_decl" ∷ codes "c_expr" ∷ codes "c_state" ∷ codes "c_track" ∷ codes "chan" ∷ []

abbrev pub words_to_g : List (List ℕ)
words_to_g =
    codes "d_step" ∷ codes "D_proctype" ∷ codes "do" ∷ codes "else" ∷ codes "empty" ∷ codes "enabled" ∷ codes "eval" ∷ codes "false" ∷
    codes "fi" ∷ codes "for" ∷ codes "full" ∷ codes "get_priority" ∷ codes "goto" ∷ []

abbrev pub words_to_o : List (List ℕ)
words_to_o =
    codes "hidden" ∷ codes "if" ∷ codes "init" ∷ codes "inline" ∷ codes "int" ∷ codes "len" ∷ codes "local" ∷ codes "ltl" ∷ codes "mtype" ∷
    codes "nempty" ∷ codes "never" ∷ codes "nfull" ∷ codes "notrace" ∷ codes "np_" ∷ codes "od" ∷ codes "of" ∷ []

abbrev pub words_to_x : List (List ℕ)
words_to_x =
    codes "pc_value" ∷ codes "pid" ∷ codes "printf" ∷ codes "printm" ∷ codes "priority" ∷ codes "proctype" ∷ codes "provided" ∷
    codes "return" ∷ codes "run" ∷ codes "select" ∷ codes "set_priority" ∷ codes "short" ∷ codes "show" ∷ codes "skip" ∷ codes "timeout" ∷
    codes "trace" ∷ codes "true" ∷ codes "typedef" ∷ codes "unless" ∷ codes "unsigned" ∷ codes "xr" ∷ codes "xs" ∷ []
