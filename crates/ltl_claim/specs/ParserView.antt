-- The state of the parser, and what a token changes of it.
use Rattle.std.specs.Prelude.{◌≡◌, ◌≤◌, ℕ, length, Bool, true, false, if◌then◌else◌, List, [], ◌∷◌, ◌++◌, Option, Some, None, option_map, Result, Ok, Err}
use Rattle.ltl_spec.specs.Semantics.Word.{Name}
use Rattle.ltl_spec.specs.Formulas.Tokens.{same_name}
use Rattle.ltl_spec.specs.Collections.Lists.{first_occurrences}
use Rattle.ltl_spec.specs.Claims.ClaimTokens.{ClaimToken}
use Rattle.ltl_spec.specs.Claims.ClaimMachine as machine
use Rattle.ltl_spec.specs.Claims.ClaimMachine.{Symbol, Sofar, Built}
use Rattle.ltl_claim.specs.declared.fault.ClaimFaultKind.{ClaimFaultKind}
use Rattle.ltl_claim.specs.declared.symbol.Symbol as code
use Rattle.ltl_claim.specs.declared.symbol.Symbol.TheVariants as made
use Rattle.ltl_claim.specs.SymbolView.{symbols_of}
use Rattle.ltl_claim.specs.declared.token.Token.{Token}
use Rattle.ltl_claim.specs.ClaimItems.{ClaimItem, Tell, claim_items}
use Rattle.ltl_claim.specs.ClaimFault as fault
use Rattle.ltl_claim.specs.ClaimAnswer.{claim_answer, end_kind, read_items}
use Rattle.ltl_claim.specs.ClaimStep.{fits, step}
use Rattle.ltl_claim.specs.ProgramView.{BuiltView, built_of, nothing_built, program_of}
use Rattle.ltl_claim.specs.TokenView.{item_of, kind_of}

-- what may come next, what is built, and the different names of its propositions
pub record ParserView : Type 0 where
  pub symbols : List code.Symbol
  pub built : BuiltView
  pub names : List Name

abbrev pub new_parser : ParserView
new_parser = record { symbols = made.InCloseBrace ∷ made.MayMore ∷ made.AnItem ∷ made.Title ∷ made.InNever ∷ []; built = nothing_built; names = [] }

-- unless the token fits nowhere
abbrev pub only : Tell → Option (List Symbol) → Option (List Symbol)
only tell o = if fits tell then o else None

-- these symbols were pushed, or there are none
abbrev pub Pushes : {E : Type 0} → Option (List Symbol) → ParserView → Result Bool E → ParserView → Type 0
Pushes o v (Ok true) w = (option_map (λ more. more ++ symbols_of v.symbols) o ≡ Some (symbols_of w.symbols)) × (w.built ≡ v.built) × (w.names ≡ v.names)
Pushes o v (Ok false) w = (o ≡ None) × (w ≡ v)
Pushes o v (Err e) w = Unit {0}

-- an action was done, or it can't be done. In the state of the definitions each name stands as often as in the text
abbrev pub Does : {E : Type 0} → (Built → Option Built) → ParserView → Result Bool E → ParserView → Type 0
Does f v (Ok true) w = (w.symbols ≡ v.symbols) × ((all : List Name) → v.names ≡ first_occurrences same_name all
    → (more : List Name) × (w.names ≡ first_occurrences same_name more) × (f (built_of all v.built) ≡ Some (built_of more w.built)))
Does f v (Ok false) w = (all : List Name) → f (built_of all v.built) ≡ None
Does f v (Err e) w = Unit {0}

-- where a step came to
abbrev pub Reaches : ParserView → Result Sofar fault.ClaimFaultKind → Type 0
Reaches w r = (more : List Name) × (w.names ≡ first_occurrences same_name more) × (r ≡ Ok (record { symbols = symbols_of w.symbols; built = built_of more w.built }))

-- a token was taken, or it is at fault
abbrev pub Takes : {E : Type 0} → Bool → ClaimItem → ParserView → Result (Option ClaimFaultKind) E → ParserView → Type 0
Takes labels i v (Ok None) w = (all : List Name) → v.names ≡ first_occurrences same_name all → Reaches w (step labels false i (symbols_of v.symbols) (built_of all v.built))
Takes labels i v (Ok (Some k)) w = (all : List Name) → v.names ≡ first_occurrences same_name all → step labels false i (symbols_of v.symbols) (built_of all v.built) ≡ Err (kind_of k)
Takes labels i v (Err e) w = Unit {0}

-- the symbols behind the first part of an option
abbrev pub first_part : ClaimToken → Option (List Symbol)
first_part t = machine.behind false machine.AFirst t

-- the text may end, or may not
abbrev pub Ends : {E : Type 0} → ℕ → ParserView → Result (Option ClaimFaultKind) E → ParserView → Type 0
Ends size v (Ok None) w = ((all : List Name) → end_kind (record { symbols = symbols_of v.symbols; built = built_of all v.built }) size ≡ None) × (w ≡ v)
Ends size v (Ok (Some k)) w = (all : List Name) → v.names ≡ first_occurrences same_name all → end_kind (record { symbols = symbols_of v.symbols; built = built_of all v.built }) size ≡ Some (kind_of k)
Ends size v (Err e) w = Unit {0}

-- the items that are still to come: the current one, and those behind it
abbrev pub coming : Option Token → List ClaimItem → List ClaimItem
coming None is = []
coming (Some t) is = item_of t ∷ is

-- with what is still to come, the parser comes to the same as with the whole text
abbrev pub IsOnWay : List ℕ → ParserView → List ClaimItem → Type 0
IsOnWay text v rest = (all : List Name) × (v.names ≡ first_occurrences same_name all)
    × (read_items (record { symbols = symbols_of v.symbols; built = built_of all v.built }) rest ≡ read_items machine.at_first (claim_items text))

-- all tokens of the text were taken, or one is at fault
abbrev pub TakesAll : {E : Type 0} → List ℕ → Result (Option (ℕ × ClaimFaultKind)) E → ParserView → Type 0
TakesAll text (Ok None) w = IsOnWay text w []
TakesAll text (Ok (Some (at, k))) w = (at ≤ length text) × (read_items machine.at_first (claim_items text) ≡ Err (record { kind = kind_of k; at = at }))
TakesAll text (Err e) w = Unit {0}

-- the text is the program that was built, or has this fault
abbrev pub ReadsText : {E : Type 0} → List ℕ → Result (Option (ℕ × ClaimFaultKind)) E → ParserView → Type 0
ReadsText text (Ok None) w = (all : List Name) × (w.names ≡ first_occurrences same_name all) × (claim_answer text ≡ Ok (program_of all w.built))
ReadsText text (Ok (Some (at, k))) w = (at ≤ length text) × (claim_answer text ≡ Err (record { kind = kind_of k; at = at }))
ReadsText text (Err e) w = Unit {0}
