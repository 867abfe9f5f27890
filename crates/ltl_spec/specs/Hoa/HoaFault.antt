-- Where and why a text is no automaton: the leftmost token that doesn't fit to what stands before it.
use Rattle.std.specs.Prelude.{ℕ, nat_lt, if◌then◌else◌, List, length, take, fold, Option, Some, None, Result, Ok, Err}
use Rattle.ltl_spec.specs.Tools.Limits.{Limits}
use Rattle.ltl_spec.specs.Hoa.HoaToken.{HoaToken, UnclosedString, UnclosedComment, HoaItem, hoa_items, last_line}
use Rattle.ltl_spec.specs.Hoa.HoaReading.{AcceptanceForm}
use Rattle.ltl_spec.specs.Hoa.HoaFaultKind.{HoaFaultKind, NotHoaVersion1, BadToken, LimitPassed}
use Rattle.ltl_spec.specs.Hoa.HoaPlace.{Place, AtFormat, AtVersion, AtEnd, Before, before_all}
use Rattle.ltl_spec.specs.Hoa.HoaStep.{Step, step}

-- a fault and its line
pub record HoaFault : Type 0 where
  pub kind : HoaFaultKind
  pub line : ℕ

abbrev pub fault_at : HoaFaultKind → ℕ → Option HoaFault
fault_at kind line = Some (record { kind = kind; line = line })

-- the end of the text at a place
abbrev pub end_fault : Place → ℕ → Option HoaFault
end_fault AtEnd last = None
end_fault AtFormat last = fault_at NotHoaVersion1 last
end_fault AtVersion last = fault_at NotHoaVersion1 last
end_fault _ last = fault_at BadToken last

-- What has no end is at fault in the line of the text's end; but behind the automaton a string is at fault where it begins
abbrev pub fault_line : Place → HoaToken → ℕ → ℕ → ℕ
fault_line place UnclosedComment line last = last
fault_line AtEnd UnclosedString line last = line
fault_line place UnclosedString line last = last
fault_line place _ line last = line

module _ (l : Limits) (form : AcceptanceForm) (text : List ℕ) where
  -- what a step came to, a fault with its line
  abbrev pub with_line : Place → HoaItem → Step → Result Before HoaFault
  with_line place i (Ok b) = Ok b
  with_line place i (Err kind) = Err (record { kind = kind; line = fault_line place i.token i.line (last_line text) })

  -- one more item, unless there was a fault
  abbrev pub take_item : Result Before HoaFault → HoaItem → Result Before HoaFault
  take_item (Err fault) i = Err fault
  take_item (Ok b) i = with_line b.place i (step l form b.place b i.token)

  abbrev pub fault_after : Result Before HoaFault → Option HoaFault
  fault_after (Err fault) = Some fault
  fault_after (Ok b) = end_fault b.place (last_line text)

  -- the fault of the text, if there is one: its length first, in the line of the first byte past the limit
  abbrev pub hoa_fault : Option HoaFault
  hoa_fault =
      let fault = fault_after (fold take_item (Ok before_all) (hoa_items text)) in
      if nat_lt l.hoa_bytes (length text) then fault_at LimitPassed (last_line (take l.hoa_bytes text)) else fault
