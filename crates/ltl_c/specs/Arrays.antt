-- The rows of a formula's automaton in the caller's arrays.
use Rattle.std.specs.Prelude.{◌≡◌, ◌⊎◌, ℕ, ◌+◌, ◌≤◌, Bool, false, List, [], ◌∷◌, ◌++◌, length, map, take, drop, find, Option, Some, None, Result, Ok, Err}
use Rattle.std.specs.List.{flat_map}
use Rattle.std.specs.Option.{option_map_or}
use Rattle.ltl_spec.specs.Automata.Automaton.{Automaton, Edge, State}
use Rattle.ltl_spec.specs.Formulas.Formula.{Reading}
use Rattle.ltl_spec.specs.Formulas.Tokens.{Item, Token, NameWord, items, same_name}
use Rattle.ltl_spec.specs.Semantics.Language.{AcceptsModels}
use Rattle.ltl_spec.specs.Semantics.Word.{Name}
use Rattle.ltl_spec.specs.Tools.Limits.{stated_limits}
use Rattle.ltl_spec.specs.Tools.Outcome.{NotOpened, Text, Then}
use Rattle.ltl_spec.specs.Tools.Programs.{InputReads, Layout, TranslatorPlan}
use Rattle.ltl_spec.specs.Tools.Refusal.{Refusal, Translator, Usage, message, status_of}
use Rattle.ltl_spec.specs.Tools.Run.{laid_out}
use Rattle.ltl_sets.specs.Words.{forbidden_of, letter_of, words_with}
use Rattle.ltl_cli.specs.Translations.{MakesShown}
use Rattle.ltl_c.specs.declared.refusal_code.RefusalCode.{RefusalCode}
use Rattle.ltl_c.specs.declared.rows.Counts.{Counts}
use Rattle.ltl_c.specs.declared.rows.EdgeRow.{EdgeRow}
use Rattle.ltl_c.specs.declared.rows.NameRow.{NameRow}
use Rattle.ltl_c.specs.declared.rows.StateRow.{StateRow}
use Rattle.ltl_c.specs.declared.text_options.TextOptions.{TextOptions}
use Rattle.ltl_c.specs.Calls.{MayEnd, layout_numbered, too_short, translator_asked}
use Rattle.ltl_c.specs.Codes.{code_for}

-- ---- rows

-- an edge: the propositions that have to be true and false, its acceptance sets, and its target
abbrev pub edge_row : Edge → EdgeRow
edge_row e = record { asked_true = words_with (letter_of e.cube); asked_false = words_with (forbidden_of e.cube); sets = words_with e.marks; target = e.target }

-- the edges of the first state, then those of the next one, and so on
abbrev pub edge_rows : List State → List EdgeRow
edge_rows ss = flat_map (λ s. map edge_row s.edges) ss

-- the row of a state whose first edge has this number
abbrev pub state_row : ℕ → State → StateRow
state_row at s = record { first_edge = at; accepting = s.accepting }

-- the rows of states; the first edge of the first one has this number
abbrev pub state_rows_from : ℕ → List State → List StateRow
state_rows_from at [] = []
state_rows_from at (s ∷ ss) = state_row at s ∷ state_rows_from (at + length s.edges) ss

abbrev pub state_rows : List State → List StateRow
state_rows ss = state_rows_from 0 ss

-- whether the token is this name
abbrev pub is_word : Name → Token → Bool
is_word name (NameWord n) = same_name n name
is_word name _ = false

abbrev pub is_named : Name → Item → Bool
is_named name i = is_word name i.token

-- the row of a name: its first occurrence among the items of a text
abbrev pub name_row : List Item → Name → NameRow
name_row is name = record { offset = option_map_or (λ i. i.start) (find (is_named name) is) 0; count = length name }

abbrev pub name_rows : List ℕ → List Name → List NameRow
name_rows text names = map (name_row (items text)) names

-- ---- arrays

-- the contents of the three arrays
pub record Arrays : Type 0 where
  pub states : List StateRow
  pub edges : List EdgeRow
  pub names : List NameRow

abbrev pub arrays : List StateRow → List EdgeRow → List NameRow → Arrays
arrays states edges names = record { states = states; edges = edges; names = names }

-- the rows of an automaton and of the names in the text of its formula
abbrev pub rows_of : List ℕ → Reading → Automaton → Arrays
rows_of text R B = arrays (state_rows B.states) (edge_rows B.states) (name_rows text R.names)

-- the rows at the beginning, then the old contents
abbrev pub put_over : {A : Type 0} → List A → List A → List A
put_over rows old = rows ++ drop (length rows) old

-- the rows from an index on
abbrev pub put_at : {A : Type 0} → ℕ → List A → List A → List A
put_at at rows old = put_over (take at old ++ rows) old

abbrev pub over : Arrays → Arrays → Arrays
over rows old = arrays (put_over rows.states old.states) (put_over rows.edges old.edges) (put_over rows.names old.names)

-- the arrays have room for these numbers of rows
abbrev pub Fit : Counts → Arrays → Type 0
Fit counts old = (counts.states ≤ length old.states) × (counts.edges ≤ length old.edges) × (counts.names ≤ length old.names)

-- all rows are written to the beginnings of the arrays; or an array is too short, and all arrays are unchanged
abbrev pub DeliversRows : Counts → Arrays → Arrays → Arrays → ℕ → Type 0
DeliversRows counts rows old new status = ((status ≡ 0) × Fit counts old × (new ≡ over rows old)) ⊎ ((status ≡ too_short) × ¬ (Fit counts old) × (new ≡ old))

-- the counts for these rows and this number of acceptance sets
abbrev pub counted : Arrays → ℕ → RefusalCode → Counts
counted rows sets code = record { states = length rows.states; edges = length rows.edges; names = length rows.names; sets = sets; refusal = code }

abbrev pub no_rows : RefusalCode → Counts
no_rows code = counted (arrays [] [] []) 0 code

-- ---- the automaton of the options

-- a formula and its automaton
pub record Found : Type 0 where
  pub reading : Reading
  pub automaton : Automaton

abbrev pub found : Reading → Automaton → Found
found R B = record { reading = R; automaton = B }

-- the formula and the automaton for a plan of the translator; a usage error if there is no plan
abbrev pub FindsPlanned : List ℕ → Option TranslatorPlan → Result Found Refusal → Type 0
FindsPlanned text None r = r ≡ Err Usage
FindsPlanned text (Some p) r =
    Then (InputReads stated_limits (Text text)) (λ R. Then (MakesShown p.layout R p.rewrite p.options) (λ B r. r ≡ Ok (found R B))) r

abbrev pub MakesAsked : List ℕ → TextOptions → Result Found Refusal → Type 0
MakesAsked text o = FindsPlanned text (translator_asked text o)

-- ---- what a call returns

-- There is an automaton. It accepts exactly the models of the formula; the program prints its text for these options, in their layout
pub record GivesAutomaton (text : List ℕ) (o : TextOptions) (counts : Counts) (old new : Arrays) (status : ℕ) : Type 0 where
  pub layout : Layout
  pub reading : Reading
  pub automaton : Automaton
  pub asked : layout_numbered o.layout ≡ Some layout
  pub made : MakesAsked text o (Ok (found reading automaton))
  pub models : AcceptsModels automaton reading.formula
  pub shown : MayEnd Translator (translator_asked text o) NotOpened 0 (laid_out layout automaton reading) []
  pub counted : counts ≡ counted (rows_of text reading automaton) automaton.sets (code_for None)
  pub delivered : DeliversRows counts (rows_of text reading automaton) old new status

-- There is no automaton, as the program reports. The arrays are unchanged
pub record RefusesAutomaton (text : List ℕ) (o : TextOptions) (counts : Counts) (old new : Arrays) (status : ℕ) : Type 0 where
  pub reason : Refusal
  pub shown : MayEnd Translator (translator_asked text o) NotOpened status [] (message stated_limits Translator reason)
  pub ended : status ≡ status_of reason
  pub counted : counts ≡ no_rows (code_for (Some reason))
  pub kept : new ≡ old

abbrev pub HandsAutomaton : List ℕ → TextOptions → Counts → Arrays → Arrays → ℕ → Type 0
HandsAutomaton text o counts old new status = GivesAutomaton text o counts old new status ⊎ RefusesAutomaton text o counts old new status
