-- The answer to a text: the program of a claim, or its first fault.
use Rattle.std.specs.Prelude.{ℕ, ◌+◌, Bool, true, false, not, ◌&&◌, ◌==◌, nat_lt, if◌then◌else◌, List, [], ◌∷◌, length, take, fold, Option, Some, None, unwrap_or, Result, Ok, Err}
use Rattle.std.specs.List.{list_all}
use Rattle.ltl_spec.specs.Claims.ClaimTokens.{ClaimToken, Word, Goto, Foreign}
use Rattle.ltl_spec.specs.Claims.ClaimProgram.{Program, ClaimLabel}
use Rattle.ltl_spec.specs.Claims.ClaimMachine.{Sofar, at_first, is_label}
use Rattle.ltl_claim.specs.ClaimItems.{ClaimItem, Broken, claim_items, colon_next}
use Rattle.ltl_claim.specs.ClaimFault.{ClaimFault, ClaimFaultKind, BadToken, LimitPassed, UndefinedLabel}
use Rattle.ltl_claim.specs.ClaimStep.{step}

-- the largest number of bytes
abbrev pub most_bytes : ℕ
most_bytes = 16777216

-- the state behind the items, or the first fault
abbrev pub read_items : Sofar → List ClaimItem → Result Sofar ClaimFault
read_items s [] = Ok s
read_items s (i ∷ is) = elim (step (colon_next is) false i s.symbols s.built) [ Ok c ↦ read_items c is | Err k ↦ Err (record { kind = k; at = i.at }) ]

-- the end of a text, as a token that fits nowhere
abbrev pub end_item : ℕ → ClaimItem
end_item size = record { token = Foreign; tell = Broken; at = size }

abbrev pub end_kind : Sofar → ℕ → Option ClaimFaultKind
end_kind s size = elim s.symbols [ [] ↦ None | _ ↦ elim (step false false (end_item size) s.symbols s.built) [ Ok c ↦ Some BadToken | Err k ↦ Some k ] ]

abbrev pub is_goto : ClaimToken → Bool
is_goto Goto = true
is_goto t = false

-- a word that is no label
abbrev pub is_unknown : List ClaimLabel → ClaimToken → Bool
is_unknown labels (Word l) = not (is_label l labels)
is_unknown labels t = false

-- the first word behind a `goto` that is no label
abbrev pub undefined : List ClaimLabel → Bool → List ClaimItem → Option ℕ
undefined labels behind [] = None
undefined labels behind (i ∷ is) = if behind && is_unknown labels i.token then Some i.at else undefined labels (is_goto i.token) is

abbrev pub unless_undefined : List ClaimItem → ℕ → Program → Result Program ClaimFault
unless_undefined items size p =
    if list_all (λ l. is_label l p.labels) p.gotos then Ok p else Err (record { kind = UndefinedLabel; at = unwrap_or (undefined p.labels false items) size })

abbrev pub ended_with : List ClaimItem → ℕ → Result Sofar ClaimFault → Result Program ClaimFault
ended_with items size (Err f) = Err f
ended_with items size (Ok s) = elim (end_kind s size) [ Some k ↦ Err (record { kind = k; at = size }) | None ↦ unless_undefined items size s.built.program ]

-- the program that the text is, or its first fault: its length first, at the first byte that is too many
abbrev pub claim_answer : List ℕ → Result Program ClaimFault
claim_answer text =
    if nat_lt most_bytes (length text) then Err (record { kind = LimitPassed; at = most_bytes }) else
    ended_with (claim_items text) (length text) (read_items at_first (claim_items text))

-- the line and the column behind a byte
abbrev pub moved : ℕ × ℕ → ℕ → ℕ × ℕ
moved place b = if b == 10 then (place.0 + 1, 1) else (place.0, place.1 + 1)

-- the line and the column of an offset, both counted from 1
abbrev pub place_of : List ℕ → ℕ → ℕ × ℕ
place_of text at = fold moved (1, 1) (take at text)
