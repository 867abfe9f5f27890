-- Reading the text of a word byte by byte.
use Rattle.std.specs.Prelude.{ℕ, Bool, true, false, List, [], ◌∷◌, ◌++◌, Option, Some, None, ◌==◌, if◌then◌else◌, codes}
use Rattle.ltl_spec.specs.Semantics.Word.{Name}
use Rattle.ltl_spec.specs.Formulas.Tokens.{is_lower, is_name_byte}
use Rattle.ltl_spec.specs.Formulas.Names.{is_proposition}

-- what may come next; in a name, the name so far; in the word `cycle `, what has to come of it
pub data WordPlace : Type 0 where
  AtLetter AtFirstName AtName AfterLetter AtBlank : WordPlace
  InName : Name → WordPlace
  InWord : List ℕ → WordPlace

-- the place, whether it is in the cycle, the finished letters, and the names of the open one
pub record WordBefore : Type 0 where
  pub place : WordPlace
  pub in_cycle : Bool
  pub stem : List (List Name)
  pub cycle : List (List Name)
  pub letter : List Name

abbrev pub at : WordPlace → Bool → List (List Name) → List (List Name) → List Name → WordBefore
at place in_cycle stem cycle letter = record { place = place; in_cycle = in_cycle; stem = stem; cycle = cycle; letter = letter }

-- behind a letter
abbrev pub closed : Bool → List (List Name) → List (List Name) → List Name → WordBefore
closed true stem cycle letter = at AfterLetter true stem (cycle ++ letter ∷ []) []
closed false stem cycle letter = at AfterLetter false (stem ++ letter ∷ []) cycle []

abbrev pub closed_with : WordBefore → List Name → WordBefore
closed_with b letter = closed b.in_cycle b.stem b.cycle letter

abbrev pub go : WordBefore → WordPlace → Option WordBefore
go b place = Some (record b { place = place })

-- the beginning of a name
abbrev pub begin_name : Bool → WordBefore → ℕ → Option WordBefore
begin_name true b c = go b (InName (c ∷ []))
begin_name false b c = None

-- behind a finished name
abbrev pub end_name : WordBefore → List Name → ℕ → Option WordBefore
end_name b letter c =
    if c == 44 then Some (record b { place = AtName; letter = letter }) else
    if c == 125 then Some (closed_with b letter) else None

-- in a name: whether the byte belongs to it, and whether it may end
abbrev pub in_name : Bool → Bool → WordBefore → Name → ℕ → Option WordBefore
in_name true may_end b n c = go b (InName (n ++ c ∷ []))
in_name false true b n c = end_name b (b.letter ++ n ∷ []) c
in_name false false b n c = None

abbrev pub in_word : WordBefore → List ℕ → Option WordBefore
in_word b [] = Some (record b { place = AtLetter; in_cycle = true })
in_word b ws = go b (InWord ws)

abbrev pub expect_word : WordBefore → List ℕ → ℕ → Option WordBefore
expect_word b [] c = None
expect_word b (w ∷ ws) c = if c == w then in_word b ws else None

abbrev pub at_letter : Bool → WordBefore → ℕ → Option WordBefore
at_letter true b c = if c == 123 then go b AtFirstName else None
at_letter false b c = if c == 123 then go b AtFirstName else if c == 99 then go b (InWord (codes "ycle ")) else None

abbrev pub word_step : WordPlace → WordBefore → ℕ → Option WordBefore
word_step AtLetter b c = at_letter b.in_cycle b c
word_step AtFirstName b c = if c == 125 then Some (closed_with b []) else begin_name (is_lower c) b c
word_step AtName b c = begin_name (is_lower c) b c
word_step (InName n) b c = in_name (is_name_byte c) (is_proposition n) b n c
word_step AfterLetter b c = if c == 59 then go b AtBlank else None
word_step AtBlank b c = if c == 32 then go b AtLetter else None
word_step (InWord ws) b c = expect_word b ws c

abbrev pub is_finished : WordPlace → Bool → Bool
is_finished AfterLetter c = c
is_finished _ c = false
