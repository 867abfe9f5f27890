-- The tokens that may stand at a place of an automaton's text. For each place, `step`, `step_in_body` and `go_on` have the tokens that go on and
-- the kind of fault that any other one is.
use Rattle.std.specs.Prelude.{ℕ, ◌+◌, ◌-◌, Bool, true, false, not, ◌&&◌, ◌||◌, ◌==◌, nat_lt, nat_le, if◌then◌else◌, List, [], ◌∷◌, ◌++◌, length, drop, Option, Some, None, option_map, unwrap_or, is_some, Result, Ok, Err, codes}
use Rattle.std.specs.List.{list_any}
use Rattle.ltl_spec.specs.Semantics.Word.{Name}
use Rattle.ltl_spec.specs.Formulas.Tokens.{same_name}
use Rattle.ltl_spec.specs.Formulas.Names.{is_proposition}
use Rattle.ltl_spec.specs.Tools.Limits.{Limits}
use Rattle.ltl_spec.specs.Hoa.HoaToken.{HoaToken, StringToken, Identifier, Header, Int, Body, End, Abort, OpenLabel, CloseLabel, OpenSets, CloseSets, OpenBracket, CloseBracket, NotSign, AndSign, OrSign, Unknown, UnclosedString, UnclosedComment}
use Rattle.ltl_spec.specs.Hoa.HoaLabel.{Label, ConstantLabel, NumberLabel, BracketLabel, label_cubes, is_wide}
use Rattle.ltl_spec.specs.Hoa.HoaReading.{AcceptanceForm, acceptance_tokens, begins_upper, is_plain}
use Rattle.ltl_spec.specs.Hoa.HoaFaultKind.{HoaFaultKind, NotHoaVersion1, BadToken, ItemTwice, ItemMissing, UnknownItem, Unsupported, NumberOutOfRange, BadPropositionList, StateDefinedTwice, TextAfterEnd, LimitPassed}
use Rattle.ltl_spec.specs.Hoa.HoaPlace.{HoaHeader, ItemBefore, PlainItem, StartNumber, ListedNames, Acceptance, OtherItem, LabelPart, LabelParts, BodyPlace, AtState, AtNumber, AfterNumber, AfterName, InStateSets, AtEdge, AtTarget, AfterTarget, InEdgeSets, AtOperand, AfterOperand, Place, AtFormat, AtVersion, AtStates, AtStart, AtCount, AtSets, AtEnd, AtNames, InAcceptance, AtItem, InBody, Before, empty_part, with_operand, whole}

-- what stands before the token behind, or the kind of the fault
abbrev pub Step : Type 0
Step = Result Before HoaFaultKind

abbrev pub go_to : Before → Place → Step
go_to b place = Ok (record b { place = place })

abbrev pub in_body : Before → BodyPlace → Step
in_body b place = go_to b (InBody place)

-- the kind, but a byte that begins no token and what has no end are bad tokens
abbrev pub unless_broken : HoaToken → HoaFaultKind → HoaFaultKind
unless_broken Unknown kind = BadToken
unless_broken UnclosedString kind = BadToken
unless_broken UnclosedComment kind = BadToken
unless_broken _ kind = kind

-- a number that has to be below its count
abbrev pub if_below : ℕ → Option ℕ → Step → Step
if_below n count step = if nat_lt n (unwrap_or count 0) then step else Err NumberOutOfRange

-- ---- the header

abbrev pub begin_once : Before → Bool → Place → Step
begin_once b stood place = if stood then Err ItemTwice else go_to b place

abbrev pub begin_item : Before → List ℕ → Step
begin_item b name =
    if same_name name (codes "HOA") then Err ItemTwice else
    if same_name name (codes "States") then begin_once b (is_some b.header.states) AtStates else
    if same_name name (codes "Start") then begin_once b (is_some b.header.start) AtStart else
    if same_name name (codes "AP") then begin_once b (is_some b.header.names) AtCount else
    if same_name name (codes "Acceptance") then begin_once b (is_some b.header.sets) AtSets else
    if same_name name (codes "Alias") then Err Unsupported else
    if begins_upper name then Err UnknownItem else go_to b (AtItem OtherItem)

abbrev pub begin_body : Before → HoaHeader → Step
begin_body b h =
    if not (is_some h.states && is_some h.start && is_some h.names && is_some h.sets) then Err ItemMissing else
    if_below (unwrap_or h.start 0) h.states (in_body b AtState)

-- behind an item, a token that begins neither an item nor the body
abbrev pub go_on : Before → ItemBefore → HoaToken → Step
go_on b PlainItem t = Err BadToken
go_on b StartNumber AndSign = Err Unsupported
go_on b StartNumber _ = Err BadToken
go_on b ListedNames (StringToken s) = Err BadPropositionList
go_on b ListedNames _ = Err BadToken
go_on b Acceptance t = Err (unless_broken t Unsupported)
go_on b OtherItem t = if is_plain t then go_to b (AtItem OtherItem) else Err BadToken

-- these names were read, and so many have to come
abbrev pub with_names : Before → List Name → ℕ → Step
with_names b names left = Ok (record b { place = if left == 0 then AtItem ListedNames else AtNames left; header = record b.header { names = Some names } })

-- whether it is this token of `Acceptance:`
abbrev pub is_token : HoaToken → HoaToken → Bool
is_token (Int m) (Int n) = m == n
is_token (Identifier s) (Identifier t) = same_name s t
is_token OpenBracket OpenBracket = true
is_token CloseBracket CloseBracket = true
is_token AndSign AndSign = true
is_token _ _ = false

abbrev pub expect : Before → List HoaToken → Step
expect b [] = go_to b (AtItem Acceptance)
expect b ts = go_to b (InAcceptance ts)

-- ---- labels

abbrev pub operand : Before → LabelParts → Label → Step
operand b p a = in_body b (AfterOperand (record p { inner = with_operand p.inner a }))

-- the end of brackets, and of a label
abbrev pub close_bracket : Before → LabelPart → List LabelPart → Step
close_bracket b inner [] = Err BadToken
close_bracket b inner (p ∷ ps) = operand b (record { inner = p; around = ps }) (BracketLabel (whole inner))

abbrev pub close_label : Limits → Before → LabelPart → List LabelPart → Step
close_label l b inner [] =
    let edges = b.edges + length (label_cubes (whole inner)) in
    if is_wide l.label_cubes (whole inner) || nat_lt l.hoa_edges edges then Err LimitPassed else Ok (record b { place = InBody AtTarget; edges = edges })
close_label l b inner _ = Err BadToken

-- ---- the body

-- where a state may begin or the end come, and where also an edge may begin
abbrev pub at_state : Before → HoaToken → Step
at_state b (Header name) = if same_name name (codes "State") then in_body b AtNumber else Err BadToken
at_state b End = go_to b AtEnd
at_state b _ = Err BadToken

abbrev pub at_edge : Before → HoaToken → Step
at_edge b OpenLabel = in_body b (AtOperand (record { inner = empty_part; around = [] }))
at_edge b (Int n) = Err Unsupported
at_edge b t = at_state b t

abbrev pub step_in_body : Limits → BodyPlace → Before → HoaToken → Step
step_in_body l AtState b t = at_state b t
step_in_body l AtEdge b t = at_edge b t
-- `State:`, and behind it
step_in_body l AtNumber b (Int n) =
    if_below n b.header.states (if list_any (λ m. m == n) b.numbers then Err StateDefinedTwice else Ok (record b { place = InBody AfterNumber; numbers = n ∷ b.numbers }))
step_in_body l AtNumber b OpenLabel = Err Unsupported
step_in_body l AtNumber b _ = Err BadToken
step_in_body l AfterNumber b (StringToken s) = in_body b AfterName
step_in_body l AfterNumber b OpenSets = in_body b InStateSets
step_in_body l AfterNumber b t = at_edge b t
step_in_body l AfterName b OpenSets = in_body b InStateSets
step_in_body l AfterName b t = at_edge b t
-- `[`, a label and `]`
step_in_body l (AtOperand p) b NotSign = in_body b (AtOperand (record p { inner = record p.inner { negations = p.inner.negations + 1 } }))
step_in_body l (AtOperand p) b OpenBracket = in_body b (AtOperand (record { inner = empty_part; around = p.inner ∷ p.around }))
step_in_body l (AtOperand p) b (Int n) = if_below n (option_map length b.header.names) (operand b p (NumberLabel n))
step_in_body l (AtOperand p) b (Identifier s) =
    if same_name s (codes "t") then operand b p (ConstantLabel true) else
    if same_name s (codes "f") then operand b p (ConstantLabel false) else Err BadToken
step_in_body l (AtOperand p) b _ = Err BadToken
step_in_body l (AfterOperand p) b AndSign = in_body b (AtOperand p)
step_in_body l (AfterOperand p) b OrSign = in_body b (AtOperand (record p { inner = record { sum = Some (whole p.inner); product = None; negations = 0 } }))
step_in_body l (AfterOperand p) b CloseBracket = close_bracket b p.inner p.around
step_in_body l (AfterOperand p) b CloseLabel = close_label l b p.inner p.around
step_in_body l (AfterOperand p) b _ = Err BadToken
-- behind the label
step_in_body l AtTarget b (Int n) = if_below n b.header.states (in_body b AfterTarget)
step_in_body l AtTarget b _ = Err BadToken
step_in_body l AfterTarget b AndSign = Err Unsupported
step_in_body l AfterTarget b OpenSets = in_body b InEdgeSets
step_in_body l AfterTarget b t = at_edge b t
-- `{`, sets and `}`
step_in_body l InStateSets b (Int n) = if_below n b.header.sets (Ok b)
step_in_body l InStateSets b CloseSets = in_body b AtEdge
step_in_body l InStateSets b _ = Err BadToken
step_in_body l InEdgeSets b (Int n) = if_below n b.header.sets (Ok b)
step_in_body l InEdgeSets b CloseSets = in_body b AtEdge
step_in_body l InEdgeSets b _ = Err BadToken

-- ---- all

-- `--ABORT--` is nowhere supported
abbrev pub step_unless_abort : Limits → BodyPlace → Before → HoaToken → Step
step_unless_abort l place b Abort = Err Unsupported
step_unless_abort l place b t = step_in_body l place b t

-- the next token at its place
abbrev pub step : Limits → AcceptanceForm → Place → Before → HoaToken → Step
step l form AtFormat b (Header name) = if same_name name (codes "HOA") then go_to b AtVersion else Err NotHoaVersion1
step l form AtFormat b _ = Err NotHoaVersion1
step l form AtVersion b (Identifier name) = if same_name name (codes "v1") then go_to b (AtItem PlainItem) else Err NotHoaVersion1
step l form AtVersion b _ = Err NotHoaVersion1
step l form (AtItem before) b (Header name) = begin_item b name
step l form (AtItem before) b Body = begin_body b b.header
step l form (AtItem before) b t = go_on b before t
-- behind `States:`, `Start:` and `AP:`
step l form AtStates b (Int n) =
    if nat_lt l.hoa_states n then Err LimitPassed else Ok (record b { place = AtItem PlainItem; header = record b.header { states = Some n } })
step l form AtStates b _ = Err BadToken
step l form AtStart b (Int n) = Ok (record b { place = AtItem StartNumber; header = record b.header { start = Some n } })
step l form AtStart b _ = Err BadToken
step l form AtCount b (Int n) = if nat_lt l.propositions n then Err LimitPassed else with_names b [] n
step l form AtCount b _ = Err BadToken
step l form (AtNames left) b (StringToken name) =
    let names = unwrap_or b.header.names [] in
    if is_proposition name && not (list_any (same_name name) names) then with_names b (names ++ name ∷ []) (left - 1) else Err BadPropositionList
step l form (AtNames left) b t = Err (unless_broken t BadPropositionList)
-- behind `Acceptance:`
step l form AtSets b (Int n) =
    if nat_le n form then expect (record b { header = record b.header { sets = Some n } }) (drop 1 (acceptance_tokens n)) else Err LimitPassed
step l form AtSets b t = Err (unless_broken t Unsupported)
step l form (InAcceptance []) b t = Err (unless_broken t Unsupported)
step l form (InAcceptance (wanted ∷ ts)) b t = if is_token wanted t then expect b ts else Err (unless_broken t Unsupported)
step l form (InBody place) b t = step_unless_abort l place b t
step l form AtEnd b t = Err TextAfterEnd
