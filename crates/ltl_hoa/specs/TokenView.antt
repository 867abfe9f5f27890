-- The tokens of the code as tokens of the definitions, and their bytes.
use Rattle.std.specs.Prelude.{ℕ, Bool, ◌||◌, ◌==◌, nat_eq, if◌then◌else◌, List, Option, Some, None, codes}
use Rattle.std.specs.List.{starts_with}
use Rattle.ltl_spec.specs.Formulas.Tokens.{same_name}
use Rattle.ltl_spec.specs.Hoa.HoaToken as spec
use Rattle.ltl_spec.specs.Hoa.HoaFaultKind as fault
use Rattle.ltl_hoa.specs.declared.token.TokenKind.{TokenKind}
use Rattle.ltl_hoa.specs.declared.token.TokenKind.TheVariants as made
use Rattle.ltl_hoa.specs.declared.fault.HoaFaultKind.{HoaFaultKind}
use Rattle.ltl_hoa.specs.declared.fault.HoaFaultKind.TheVariants.{NotHoaVersion1, BadToken, ItemTwice, ItemMissing, UnknownItem, Unsupported, NumberOutOfRange, BadPropositionList, StateDefinedTwice, TextAfterEnd, LimitPassed}

-- the token of that kind with that content
abbrev pub token_of : TokenKind → List ℕ → spec.HoaToken
token_of made.Text text = spec.StringToken text
token_of made.Identifier text = spec.Identifier text
token_of made.Header text = spec.Header text
token_of made.Int text = spec.Int (spec.number_of text)
token_of made.Body text = spec.Body
token_of made.End text = spec.End
token_of made.Abort text = spec.Abort
token_of made.OpenLabel text = spec.OpenLabel
token_of made.CloseLabel text = spec.CloseLabel
token_of made.OpenSets text = spec.OpenSets
token_of made.CloseSets text = spec.CloseSets
token_of made.OpenBracket text = spec.OpenBracket
token_of made.CloseBracket text = spec.CloseBracket
token_of made.NotSign text = spec.NotSign
token_of made.AndSign text = spec.AndSign
token_of made.OrSign text = spec.OrSign
token_of made.Unknown text = spec.Unknown
token_of made.UnclosedText text = spec.UnclosedString
token_of made.UnclosedComment text = spec.UnclosedComment

-- the kind of a fault
abbrev pub kind_of : HoaFaultKind → fault.HoaFaultKind
kind_of NotHoaVersion1 = fault.NotHoaVersion1
kind_of BadToken = fault.BadToken
kind_of ItemTwice = fault.ItemTwice
kind_of ItemMissing = fault.ItemMissing
kind_of UnknownItem = fault.UnknownItem
kind_of Unsupported = fault.Unsupported
kind_of NumberOutOfRange = fault.NumberOutOfRange
kind_of BadPropositionList = fault.BadPropositionList
kind_of StateDefinedTwice = fault.StateDefinedTwice
kind_of TextAfterEnd = fault.TextAfterEnd
kind_of LimitPassed = fault.LimitPassed

-- the sign that a byte is
abbrev pub sign_kind : ℕ → Option TokenKind
sign_kind b =
    if b == 91 then Some made.OpenLabel else if b == 93 then Some made.CloseLabel else if b == 123 then Some made.OpenSets else
    if b == 125 then Some made.CloseSets else if b == 40 then Some made.OpenBracket else if b == 41 then Some made.CloseBracket else
    if b == 33 then Some made.NotSign else if b == 38 then Some made.AndSign else if b == 124 then Some made.OrSign else None

-- the mark that the bytes are
abbrev pub mark_kind : List ℕ → Option TokenKind
mark_kind text =
    if same_name text (codes "--BODY--") then Some made.Body else
    if same_name text (codes "--END--") then Some made.End else
    if same_name text (codes "--ABORT--") then Some made.Abort else None

-- whether a mark begins with the bytes
abbrev pub begins_mark : List ℕ → Bool
begins_mark text =
    starts_with nat_eq (codes "--BODY--") text || starts_with nat_eq (codes "--END--") text || starts_with nat_eq (codes "--ABORT--") text
