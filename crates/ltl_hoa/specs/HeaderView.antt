-- The state of the header's parser, as a state of the definition, and what the definition's step makes of it.
use Rattle.std.specs.Prelude.{◌≡◌, ℕ, ◌+◌, ◌-◌, ◌<◌, ◌≤◌, true, List, [], ◌∷◌, ◌++◌, length, flat_map, Option, Some, None, is_some, option_map, unwrap_or, Result, Ok, Err, codes, ⊤}
use Rattle.std.specs.List.{range_with_len}
use Rattle.ltl_spec.specs.Semantics.Word.{Name}
use Rattle.ltl_spec.specs.Tools.Limits.{stated_limits}
use Rattle.ltl_spec.specs.Hoa.HoaToken as token
use Rattle.ltl_spec.specs.Hoa.HoaToken.{HoaToken, Identifier, Int, AndSign, OpenBracket, CloseBracket}
use Rattle.ltl_spec.specs.Hoa.HoaFaultKind.{HoaFaultKind}
use Rattle.ltl_spec.specs.Hoa.HoaPlace as spec
use Rattle.ltl_spec.specs.Hoa.HoaPlace.{HoaHeader, Before, no_header, before_all}
use Rattle.ltl_spec.specs.Hoa.HoaStep.{Step, step, begin_body, with_names, expect}
use Rattle.ltl_hoa.specs.declared.fault.HoaFaultKind as made
use Rattle.ltl_hoa.specs.declared.fault.Stop.{Stop}
use Rattle.ltl_hoa.specs.declared.fault.Stop.TheVariants.{Fault, OutOfMemory}
use Rattle.ltl_hoa.specs.declared.header.Counts.{Counts}
use Rattle.ltl_hoa.specs.declared.marked.TheConstants.{MOST_SETS}
use Rattle.ltl_hoa.specs.declared.place.Place.{Place}
use Rattle.ltl_hoa.specs.declared.place.Place.TheVariants.{Format, Version, Item, States, Start, Count, Names, Sets, Acceptance, Body, End}
use Rattle.ltl_hoa.specs.declared.place.ItemBefore.{ItemBefore}
use Rattle.ltl_hoa.specs.declared.place.ItemBefore.TheVariants as before
use Rattle.ltl_hoa.specs.declared.place.AcceptancePart.{AcceptancePart}
use Rattle.ltl_hoa.specs.declared.place.AcceptancePart.TheVariants as part
use Rattle.ltl_hoa.specs.declared.token.TokenKind.{TokenKind}
use Rattle.ltl_spec.specs.Automata.Automaton.{Edge}
use Rattle.ltl_spec.specs.Hoa.HoaReading.{MarkedAutomaton, stated_form, set_tokens}
use Rattle.ltl_hoa.specs.MarkedView.{IsMarked}
use Rattle.ltl_hoa.specs.NumberView.{capped_token}
use Rattle.ltl_hoa.specs.TokenView.{token_of, kind_of}

-- the items that have stood, a start as it is read, and how many names have still to come
pub record HeaderView : Type 0 where
  pub items : HoaHeader
  pub left : ℕ

-- the counts stay within their limits
pub record IsHeader (h : HeaderView) : Type 0 where
  pub names : length (unwrap_or h.items.names []) + h.left ≤ stated_limits.propositions
  pub sets : unwrap_or h.items.sets 0 ≤ MOST_SETS

abbrev pub new_header : HeaderView
new_header = record { items = no_header; left = 0 }

-- ---- places of the definition

abbrev pub item_of : ItemBefore → spec.ItemBefore
item_of before.Plain = spec.PlainItem
item_of before.StartNumber = spec.StartNumber
item_of before.ListedNames = spec.ListedNames
item_of before.Acceptance = spec.Acceptance
item_of before.Other = spec.OtherItem

-- the sets of n from one on, each behind `&`
abbrev pub later_sets : ℕ → ℕ → List HoaToken
later_sets n k = flat_map (λ j. AndSign ∷ set_tokens j) (range_with_len k (n - k))

-- the tokens of the acceptance condition of n sets from a part on
abbrev pub acceptance_left : ℕ → AcceptancePart → List HoaToken
acceptance_left n part.True = Identifier (codes "t") ∷ []
acceptance_left n (part.Inf k) = set_tokens k ++ later_sets n (k + 1)
acceptance_left n (part.Open k) = OpenBracket ∷ Int k ∷ CloseBracket ∷ later_sets n (k + 1)
acceptance_left n (part.Number k) = Int k ∷ CloseBracket ∷ later_sets n (k + 1)
acceptance_left n (part.Close k) = CloseBracket ∷ later_sets n (k + 1)
acceptance_left n (part.And k) = AndSign ∷ set_tokens k ++ later_sets n (k + 1)

-- the part is of one of n sets
abbrev pub IsPartOf : ℕ → AcceptancePart → Type 0
IsPartOf n part.True = ⊤
IsPartOf n (part.Inf k) = k < n
IsPartOf n (part.Open k) = k < n
IsPartOf n (part.Number k) = k < n
IsPartOf n (part.Close k) = k < n
IsPartOf n (part.And k) = k < n

-- the header's place in the definition. Behind the header there is none
abbrev pub place_of : Place → HeaderView → spec.Place
place_of Format v = spec.AtFormat
place_of Version v = spec.AtVersion
place_of (Item item) v = spec.AtItem (item_of item)
place_of States v = spec.AtStates
place_of Start v = spec.AtStart
place_of Count v = spec.AtCount
place_of Names v = spec.AtNames v.left
place_of Sets v = spec.AtSets
place_of (Acceptance part) v = spec.InAcceptance (acceptance_left (unwrap_or v.items.sets 0) part)
place_of _ v = spec.AtEnd

abbrev pub Fits : Place → HeaderView → Type 0
Fits Names v = (is_some v.items.names ≡ true) × (0 < v.left)
Fits (Acceptance part) v = IsPartOf (unwrap_or v.items.sets 0) part
Fits (Body place) v = ⊥
Fits End v = ⊥
Fits _ v = ⊤

-- the definition's state, but for its place: no state of the automaton has stood
abbrev pub before_of : HeaderView → Before
before_of v = record before_all { header = v.items }

-- ---- steps of the definition

-- a token with its number as it is read
abbrev pub read : TokenKind → List ℕ → HoaToken
read kind text = capped_token (token_of kind text)

-- its step there
abbrev pub stepped : Place → HeaderView → HoaToken → Step
stepped place v t = step stated_limits stated_form (place_of place v) (before_of v) (capped_token t)

-- the fault is of that kind, or memory was refused
abbrev pub Refuses : HoaFaultKind → Stop → Type 0
Refuses kind (Fault k) = kind_of k ≡ kind
Refuses kind OutOfMemory = ⊤

-- the place and the header show what the step came to
abbrev pub Leads : Step → Result Place Stop → HeaderView → Type 0
Leads (Ok b) (Ok place) new = (b ≡ record (before_of new) { place = place_of place new }) × Fits place new
Leads (Ok b) (Err stop) new = stop ≡ OutOfMemory
Leads (Err kind) (Ok place) new = ⊥
Leads (Err kind) (Err stop) new = Refuses kind stop

-- a token at a place of the header, but for `--BODY--` where an item may begin
abbrev pub Takes : Place → HeaderView → HoaToken → Result Place Stop → HeaderView → Type 0
Takes (Item item) v token.Body r new = ⊤
Takes place v t r new = Fits place v → Leads (stepped place v t) r new

-- where the next name stands, if there is one
abbrev pub IsBehindNames : HeaderView → Place → Type 0
IsBehindNames v place = (names : List Name) → v.items.names ≡ Some names → Leads (with_names (before_of v) names v.left) (Ok place) v

-- where the set behind this one stands, if there is one
abbrev pub IsBehindSet : ℕ → HeaderView → Place → Type 0
IsBehindSet k v place = Leads (expect (before_of v) (later_sets (unwrap_or v.items.sets 0) (k + 1))) (Ok place) v

-- what is counted
abbrev pub AreCounts : Counts → HoaHeader → Type 0
AreCounts c h = (h.states ≡ Some c.states) × (option_map length h.names ≡ Some c.names) × (h.sets ≡ Some c.sets)

-- `--BODY--` may stand there, or is the fault
abbrev pub Counted : Step → HoaHeader → Result Counts made.HoaFaultKind → Type 0
Counted (Ok b) h (Ok c) = AreCounts c h
Counted (Ok b) h (Err k) = ⊥
Counted (Err kind) h (Ok c) = ⊥
Counted (Err kind) h (Err k) = kind_of k ≡ kind

-- the definition's step at `--BODY--`
abbrev pub body_begun : HeaderView → Step
body_begun v = begin_body (before_of v) v.items

-- the header and these edges, by state
abbrev pub automaton_from : Option ℕ → Option ℕ → Option (List Name) → List (List Edge) → Option MarkedAutomaton
automaton_from (Some start) (Some sets) (Some names) edges = Some (record { states = length edges; start = start; sets = sets; names = names; edges = edges })
automaton_from _ _ _ edges = None

abbrev pub IsSomeMarked : Option MarkedAutomaton → Type 0
IsSomeMarked (Some A) = IsMarked A
IsSomeMarked None = ⊥

abbrev pub automaton_of : HeaderView → List (List Edge) → Option MarkedAutomaton
automaton_of h edges = automaton_from h.items.start h.items.sets h.items.names edges

-- they are an automaton
abbrev pub IsWhole : HeaderView → List (List Edge) → Type 0
IsWhole h edges = IsSomeMarked (automaton_of h edges)

abbrev pub IsAutomaton : HeaderView → List (List Edge) → MarkedAutomaton → Type 0
IsAutomaton h edges A = automaton_of h edges ≡ Some A
