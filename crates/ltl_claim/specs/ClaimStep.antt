-- What a token does in the grammar of claims, or why it doesn't fit.
use Rattle.std.specs.Prelude.{ℕ, Bool, true, false, not, ◌&&◌, ◌||◌, nat_eq, nat_le, if◌then◌else◌, List, [], ◌∷◌, ◌++◌, length, Option, Some, None, unwrap_or, slice_get, Result, Ok, Err, codes}
use Rattle.std.specs.List.{list_any, starts_with}
use Rattle.ltl_spec.specs.Semantics.Word.{Name}
use Rattle.ltl_spec.specs.Formulas.Tokens.{same_name}
use Rattle.ltl_spec.specs.Collections.Lists.{first_occurrences}
use Rattle.ltl_spec.specs.Claims.ClaimTokens.{ClaimToken, Word, Do, Od, If, Fi, Goto, Break, Else, OpenBrace, CloseBrace, OptionSign, Separator}
use Rattle.ltl_spec.specs.Claims.ClaimProgram.{Leave}
use Rattle.ltl_spec.specs.Claims.ClaimMachine.{Built, Sofar, Symbol, Title, AnItem, AStatement, Another, AFirst, AGuard, AnOperand, InNever, InAssert, InOpenBrace, InCloseBrace, InCloseBracket, May, Now, behind, may_be_left_out, may_leave, is_label, is_otherwise, statement_at}
use Rattle.ltl_claim.specs.ClaimItems.{ClaimItem, Tell, Arrow, Known, Broken}
use Rattle.ltl_claim.specs.ClaimFault.{ClaimFaultKind, NotANeverClaim, Unsupported, BadName, LabelTwice, ElseTwice, BreakOutsideOfDo, TextAfterEnd, LimitPassed, BadToken}

-- the largest numbers of statements and of propositions
abbrev pub most_statements : ℕ
most_statements = 65536

abbrev pub most_names : ℕ
most_names = 256

-- ---- a token that doesn't fit

-- where any token is at fault in the same way: at the beginning, and in the two places of an `atomic`
abbrev pub place_fault : Symbol → List Symbol → Option ClaimFaultKind
place_fault InNever ss = Some NotANeverClaim
place_fault Title ss = Some NotANeverClaim
place_fault InOpenBrace (AnItem ∷ ss) = Some NotANeverClaim
place_fault InAssert ss = Some Unsupported
place_fault InCloseBrace (s ∷ ss) = Some Unsupported
place_fault s ss = None

-- a token that fits nowhere, and the arrow of a conditional expression
abbrev pub tell_fault : Symbol → Tell → Option ClaimFaultKind
tell_fault s Known = Some Unsupported
tell_fault s Broken = Some BadToken
tell_fault InCloseBracket Arrow = Some Unsupported
tell_fault s tell = None

-- another token; `labels` says that a `:` stands behind it
abbrev pub token_fault : Bool → Symbol → ClaimToken → ClaimFaultKind
token_fault labels AnItem OpenBrace = Unsupported
token_fault labels AStatement OpenBrace = Unsupported
token_fault labels AStatement Goto = Unsupported
token_fault labels AStatement Break = Unsupported
token_fault labels AStatement OptionSign = Unsupported
token_fault labels AStatement Fi = Unsupported
token_fault labels AStatement Od = Unsupported
token_fault labels AStatement CloseBrace = Unsupported
token_fault labels AFirst OpenBrace = Unsupported
token_fault labels AFirst If = Unsupported
token_fault labels AFirst Do = Unsupported
token_fault labels AFirst (Word w) = if labels then Unsupported else BadName
token_fault labels AnItem (Word w) = BadName
token_fault labels AStatement (Word w) = BadName
token_fault labels AGuard (Word w) = BadName
token_fault labels AnOperand (Word w) = BadName
token_fault labels s t = BadToken

abbrev pub or_else : Option ClaimFaultKind → ClaimFaultKind → ClaimFaultKind
or_else (Some k) l = k
or_else None l = l

-- `in_list` says that an item might have begun with the token, too
abbrev pub refusal : Bool → Bool → Symbol → List Symbol → ClaimItem → ClaimFaultKind
refusal labels in_list s ss i = or_else (place_fault s ss) (or_else (tell_fault s i.tell) (token_fault labels (if in_list then AnItem else s) i.token))

-- ---- a token that fits, and is at fault nevertheless

-- where an item or a statement may begin
abbrev pub begins_item : Symbol → Bool
begins_item AnItem = true
begins_item AStatement = true
begins_item (May Another) = true
begins_item s = false

-- where an operand may begin
abbrev pub begins_operand : Symbol → Bool
begins_operand AFirst = true
begins_operand AGuard = true
begins_operand AnOperand = true
begins_operand s = begins_item s

-- a label
abbrev pub label_fault : Name → Built → Option ClaimFaultKind
label_fault l b = if is_label l b.program.labels then Some LabelTwice else if starts_with nat_eq l (codes "end") then Some Unsupported else None

-- the second `else` of the innermost selection
abbrev pub has_otherwise : Built → Bool
has_otherwise b = list_any is_otherwise (statement_at b.program (unwrap_or (slice_get b.selections 0) 0)).options

-- one more proposition than there may be
abbrev pub is_past : Name → Built → Bool
is_past n b = let names = first_occurrences same_name b.program.names in nat_le most_names (length names) && not (list_any (same_name n) names)

-- as many statements as there may be
abbrev pub is_full : Built → Bool
is_full b = nat_le most_statements (length b.program.statements)

-- one more statement than there may be
abbrev pub number_fault : Bool → Built → Option ClaimFaultKind
number_fault item b = if item && is_full b then Some LimitPassed else None

abbrev pub word_fault : Bool → Bool → Symbol → Name → Built → Option ClaimFaultKind
word_fault true true s n b = label_fault n b
word_fault true item AFirst n b = Some Unsupported
word_fault labels item s n b = if item && is_full b then Some LimitPassed else if begins_operand s && is_past n b then Some LimitPassed else None

abbrev pub else_fault : Bool → Symbol → Built → Option ClaimFaultKind
else_fault item AFirst b = if has_otherwise b then Some ElseTwice else None
else_fault item s b = number_fault item b

abbrev pub fitting_fault : Bool → Bool → Symbol → ClaimToken → Built → Option ClaimFaultKind
fitting_fault labels item s (Word n) b = word_fault labels item s n b
fitting_fault labels item s Separator b = None
fitting_fault labels item s Goto b = None
fitting_fault labels item s Break b = if may_leave Leave b then None else Some BreakOutsideOfDo
fitting_fault labels item s Else b = else_fault item s b
fitting_fault labels item s t b = number_fault item b

-- ---- a step

abbrev pub fits : Tell → Bool
fits Known = false
fits Broken = false
fits tell = true

abbrev pub behind_item : Bool → Symbol → ClaimItem → Option (List Symbol)
behind_item labels s i = if fits i.tell then behind labels s i.token else None

abbrev pub action_of : Symbol → Option (Built → Option Built)
action_of (Now f) = Some f
action_of s = None

abbrev pub is_another : Symbol → Bool
is_another (May Another) = true
is_another s = false

abbrev pub unless_fault : Option ClaimFaultKind → Sofar → Result Sofar ClaimFaultKind
unless_fault None s = Ok s
unless_fault (Some k) s = Err k

-- the state behind a token, or its fault
abbrev pub step : Bool → Bool → ClaimItem → List Symbol → Built → Result Sofar ClaimFaultKind
step labels in_list i [] b = Err TextAfterEnd
step labels in_list i (s ∷ ss) b = elim (action_of s) [
  | Some f ↦ elim (f b) [ Some c ↦ step labels in_list i ss c | None ↦ Err BadToken ]
  | None ↦ elim (behind_item labels s i) [
    | Some more ↦ unless_fault (fitting_fault labels (begins_item s) s i.token b) (record { symbols = more ++ ss; built = b })
    | None ↦ if may_be_left_out s then step labels (in_list || is_another s) i ss b else Err (refusal labels in_list s ss i)
  ]
]
