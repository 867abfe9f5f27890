-- The grammar of never claims, by one token of look-ahead.
use Rattle.std.specs.Prelude.{ℕ, zero, suc, Bool, true, false, ◌||◌, nat_eq, if◌then◌else◌, List, [], ◌∷◌, ◌++◌, length, Option, Some, None, option_map, option_and_then, unwrap_or, slice_get, slice_index_or, codes}
use Rattle.std.specs.List.{list_all, list_any, starts_with}
use Rattle.ltl_spec.specs.Semantics.Word.{Name}
use Rattle.ltl_spec.specs.Formulas.Tokens.{same_name}
use Rattle.ltl_spec.specs.Formulas.Names.{is_proposition}
use Rattle.ltl_spec.specs.Claims.ClaimTokens.{ClaimToken, Word, Truth, Never, Assert, Atomic, Do, Od, If, Fi, Goto, Break, Else, OpenBrace, CloseBrace, OpenBracket, CloseBracket, OptionSign, Colon, Separator, NotSign, AndSign, OrSign, claim_tokens}
use Rattle.ltl_spec.specs.Claims.ClaimProgram.{Guard, Constant, Named, Not, And, Or, Link, Go, Jump, Leave, Nothing, First, Test, Check, Both, Otherwise, Leaps, ClaimOption, Statement, ClaimLabel, Program}

-- where the item that comes next in a list will be linked: at the start, behind a statement, in an option of one, or nowhere behind a jump
pub data Hole : Type 0 where
  AtStart Nowhere : Hole
  BehindStatement : ℕ → Hole
  WithinOption : ℕ → ℕ → Hole

-- the guards that have still to be used, the open selections, both the last first, and the program so far
pub record Built : Type 0 where
  pub guards : List Guard
  pub selections : List ℕ
  pub hole : Hole
  pub program : Program

abbrev pub changed : {K : Type 0} → (K → K) → ℕ → List K → List K
changed f i [] = []
changed f zero (x ∷ xs) = f x ∷ xs
changed f (suc i) (x ∷ xs) = x ∷ changed f i xs

abbrev pub change : ℕ → (Statement → Statement) → Program → Program
change i f p = record p { statements = changed f i p.statements }

abbrev pub no_statement : Statement
no_statement = record { around = None; loops = false; options = []; next = Nothing }

abbrev pub statement_at : Program → ℕ → Statement
statement_at p i = slice_index_or p.statements i no_statement

abbrev pub linked : Hole → Link → Program → Program
linked AtStart k p = record p { start = k }
linked Nowhere k p = p
linked (BehindStatement i) k p = change i (λ s. record s { next = k }) p
linked (WithinOption i j) k p = change i (λ s. record s { options = changed (λ o. record o { next = k }) j s.options }) p

-- ---- what is built

abbrev pub pushed : Guard → Built → Option Built
pushed g b = Some (record b { guards = g ∷ b.guards })

abbrev pub named : Name → Built → Option Built
named n b = let p = b.program in pushed (Named n) (record b { program = record p { names = p.names ++ n ∷ [] } })

abbrev pub negated : Built → Option Built
negated b = elim b.guards [ [] ↦ None | g ∷ gs ↦ Some (record b { guards = Not g ∷ gs }) ]

abbrev pub joined : (Guard → Guard → Guard) → Built → Option Built
joined f b = elim b.guards [ h ∷ g ∷ gs ↦ Some (record b { guards = f g h ∷ gs }) | _ ↦ None ]

-- a statement, the next one in its list
abbrev pub stated : Bool → List ClaimOption → Built → Built
stated loops options b =
    let p = b.program in
    let i = length p.statements in
    let q = linked b.hole (Go i) p in
    record b { hole = BehindStatement i; program = record q { statements = q.statements ++ record { around = slice_get b.selections 0; loops = loops; options = options; next = Nothing } ∷ [] } }

-- an option of the innermost selection
abbrev pub option_begun : First → Built → Option Built
option_begun first b = elim b.selections [
  | [] ↦ None
  | i ∷ is ↦ Some (record b {
    hole = WithinOption i (length (statement_at b.program i).options);
    program = change i (λ s. record s { options = s.options ++ record { first = first; next = Nothing } ∷ [] }) b.program;
  })
]

-- what a guard or two stand for, as an option of the innermost selection or as a statement
abbrev pub head_ended : Bool → First → Built → Option Built
head_ended true first b = option_begun first b
head_ended false first b = Some (stated false (record { first = first; next = Nothing } ∷ []) b)

abbrev pub one_tested : (Guard → First) → Bool → Built → Option Built
one_tested f inside b = elim b.guards [ g ∷ gs ↦ head_ended inside (f g) (record b { guards = gs }) | _ ↦ None ]

abbrev pub both_tested : Bool → Built → Option Built
both_tested inside b = elim b.guards [ h ∷ g ∷ gs ↦ head_ended inside (Both g h) (record b { guards = gs }) | _ ↦ None ]

abbrev pub is_label : Name → List ClaimLabel → Bool
is_label l labels = list_any (λ x. same_name l x.name) labels

-- a label of the statement that comes next: a new one, which doesn't begin with `end`
abbrev pub label_found : Name → Built → Option Built
label_found l b =
    let p = b.program in
    if is_label l p.labels || starts_with nat_eq l (codes "end") then None else
    Some (record b { program = record p { labels = p.labels ++ record { name = l; statement = length p.statements } ∷ [] } })

-- a jump, with the words behind it. `break` stands in a `do`
abbrev pub may_leave : Link → Built → Bool
may_leave Leave b = list_any (λ i. (statement_at b.program i).loops) b.selections
may_leave k b = true

abbrev pub gone : Link → List Name → Built → Option Built
gone k words b = let p = b.program in if may_leave k b then Some (record b { program = record p { gotos = p.gotos ++ words } }) else None

-- a jump in a list, or as what an option begins with
abbrev pub jumped : Bool → Link → List Name → Built → Option Built
jumped true k words b = option_and_then (option_begun (Leaps k)) (gone k words b)
jumped false k words b = option_map (λ (c : Built). record c { hole = Nowhere; program = linked c.hole k c.program }) (gone k words b)

abbrev pub is_otherwise : ClaimOption → Bool
is_otherwise o = elim o.first [ Otherwise ↦ true | _ ↦ false ]

-- the one `else` of a selection
abbrev pub otherwise : Built → Option Built
otherwise b = if list_any is_otherwise (statement_at b.program (unwrap_or (slice_get b.selections 0) 0)).options then None else option_begun Otherwise b

abbrev pub opened : Bool → Built → Option Built
opened loops b = Some (record (stated loops [] b) { selections = length b.program.statements ∷ b.selections })

abbrev pub closed : Built → Option Built
closed b = elim b.selections [ [] ↦ None | i ∷ is ↦ Some (record b { selections = is; hole = BehindStatement i }) ]

-- ---- the grammar

-- What may come next. `May` is for what may be left out, `In` for a word or sign by itself, `JumpTo` for the word behind a `goto`, with which an option begins
-- or not, and `Now` for what is done before the next token
pub data Symbol : Type 0 where
  Title AnItem AStatement Another More Options AFirst AGuard AnOperand Conjunct Disjunct Separators : Symbol
  InNever InAssert InFi InOd InOpenBrace InCloseBrace InOpenBracket InCloseBracket InColon : Symbol
  May : Symbol → Symbol
  JumpTo : Bool → Symbol
  Now : (Built → Option Built) → Symbol

abbrev pub may_be_left_out : Symbol → Bool
may_be_left_out (May s) = true
may_be_left_out s = false

abbrev pub with_more : List Symbol → Option (List Symbol) → Option (List Symbol)
with_more more = option_map (λ symbols. symbols ++ more)

-- what has to come behind the token, where it begins an operand; and so on
abbrev pub operand : ClaimToken → Option (List Symbol)
operand NotSign = Some (AnOperand ∷ Now negated ∷ [])
operand OpenBracket = Some (AGuard ∷ InCloseBracket ∷ [])
operand (Truth b) = Some (Now (pushed (Constant b)) ∷ [])
operand (Word n) = if is_proposition n then Some (Now (named n) ∷ []) else None
operand t = None

abbrev pub guard : ClaimToken → Option (List Symbol)
guard t = with_more (May Conjunct ∷ May Disjunct ∷ []) (operand t)

abbrev pub head : Bool → ClaimToken → Option (List Symbol)
head inside Assert = Some (InOpenBracket ∷ AGuard ∷ InCloseBracket ∷ Now (one_tested Check inside) ∷ [])
head inside Atomic = Some (InOpenBrace ∷ AGuard ∷ Separators ∷ InAssert ∷ InOpenBracket ∷ AGuard ∷ InCloseBracket ∷ May Separators ∷ InCloseBrace ∷ Now (both_tested inside) ∷ [])
head inside t = with_more (Now (one_tested Test inside) ∷ []) (guard t)

-- `labels` says that a `:` stands behind the token
abbrev pub statement : Bool → ClaimToken → Option (List Symbol)
statement true (Word l) = Some (InColon ∷ Now (label_found l) ∷ AStatement ∷ [])
statement labels If = Some (Now (opened false) ∷ Options ∷ InFi ∷ Now closed ∷ [])
statement labels Do = Some (Now (opened true) ∷ Options ∷ InOd ∷ Now closed ∷ [])
statement labels t = head false t

abbrev pub item : Bool → ClaimToken → Option (List Symbol)
item labels Goto = Some (JumpTo false ∷ [])
item labels Break = Some (Now (jumped false Leave []) ∷ [])
item labels t = statement labels t

abbrev pub behind : Bool → Symbol → ClaimToken → Option (List Symbol)
behind labels (May s) t = behind labels s t
behind labels Title (Word w) = Some (InOpenBrace ∷ [])
behind labels Title OpenBrace = Some []
behind labels AnItem t = item labels t
behind labels AStatement t = statement labels t
behind labels More Separator = Some (May Another ∷ [])
behind labels Another Separator = Some (May Another ∷ [])
behind labels Another t = with_more (May More ∷ []) (item labels t)
behind labels Options OptionSign = Some (AFirst ∷ May More ∷ May Options ∷ [])
behind labels AFirst Goto = Some (JumpTo true ∷ [])
behind labels AFirst Break = Some (Now (jumped true Leave []) ∷ [])
behind labels AFirst Else = Some (Now otherwise ∷ [])
behind labels AFirst t = head true t
behind labels (JumpTo inside) (Word l) = Some (Now (jumped inside (Jump l) (l ∷ [])) ∷ [])
behind labels AGuard t = guard t
behind labels AnOperand t = operand t
behind labels Conjunct AndSign = Some (AnOperand ∷ Now (joined And) ∷ May Conjunct ∷ [])
behind labels Disjunct OrSign = Some (AnOperand ∷ May Conjunct ∷ Now (joined Or) ∷ May Disjunct ∷ [])
behind labels Separators Separator = Some (May Separators ∷ [])
behind labels InNever Never = Some []
behind labels InAssert Assert = Some []
behind labels InFi Fi = Some []
behind labels InOd Od = Some []
behind labels InOpenBrace OpenBrace = Some []
behind labels InCloseBrace CloseBrace = Some []
behind labels InOpenBracket OpenBracket = Some []
behind labels InCloseBracket CloseBracket = Some []
behind labels InColon Colon = Some []
behind labels s t = None

-- ---- texts

-- what may come, and what is built so far
pub record Sofar : Type 0 where
  pub symbols : List Symbol
  pub built : Built

abbrev pub take_token : Bool → ClaimToken → List Symbol → Built → Option Sofar
take_token labels t [] b = None
take_token labels t (Now f ∷ symbols) b = elim (f b) [ Some c ↦ take_token labels t symbols c | None ↦ None ]
take_token labels t (s ∷ symbols) b = elim (behind labels s t) [
  | Some more ↦ Some (record { symbols = more ++ symbols; built = b })
  | None ↦ if may_be_left_out s then take_token labels t symbols b else None
]

abbrev pub begins_colon : List ClaimToken → Bool
begins_colon (Colon ∷ ts) = true
begins_colon ts = false

abbrev pub taken_all : Option Sofar → List ClaimToken → Option Sofar
taken_all s [] = s
taken_all None (t ∷ ts) = None
taken_all (Some s) (t ∷ ts) = taken_all (take_token (begins_colon ts) t s.symbols s.built) ts

abbrev pub at_first : Sofar
at_first = record {
  symbols = InNever ∷ Title ∷ AnItem ∷ May More ∷ InCloseBrace ∷ [];
  built = record { guards = []; selections = []; hole = AtStart; program = record { start = Nothing; statements = []; labels = []; gotos = []; names = [] } };
}

-- the program of a whole claim, if each `goto` has its label
abbrev pub ended : List Symbol → Program → Option Program
ended [] p = if list_all (λ l. is_label l p.labels) p.gotos then Some p else None
ended (s ∷ symbols) p = None

-- the program of a text, if it is a claim. There are no limits here
abbrev pub claim_program : List ℕ → Option Program
claim_program text = option_and_then (λ s. ended s.symbols s.built.program) (taken_all (Some at_first) (claim_tokens text))
