-- A reduced automaton in memory, and how a call returns it.
use Rattle.std.specs.Prelude.{◌≡◌, ℕ, List, [], Option, None, Result, Ok, false}
use Rattle.std.specs.Option.{option_map_or}
use Rattle.ltl_spec.specs.Hoa.HoaReading.{stated_form}
use Rattle.ltl_spec.specs.Tools.Limits.{stated_limits}
use Rattle.ltl_spec.specs.Tools.Outcome.{Ended, Then}
use Rattle.ltl_spec.specs.Tools.Programs.{ReadsHoa}
use Rattle.ltl_spec.specs.Tools.Refusal.{Refusal}
use Rattle.ltl_reduction.specs.Messages.{reduce_message}
use Rattle.ltl_reduction.specs.Runs.{Makes, MayReduce}
use Rattle.ltl_c.specs.declared.refusal_code.RefusalCode.{RefusalCode}
use Rattle.ltl_c.specs.Calls.{Delivers, run_with}
use Rattle.ltl_c.specs.Codes.{code_for}

-- with this text in its input, `ltlreduce` may end with this status, this output and this message
abbrev pub MayEndReduction : List ℕ → ℕ → List ℕ → List ℕ → Type 0
MayEndReduction text status output message = MayReduce (Ok (record { claim = false; file = None })) (Ended text) (run_with status output message)

-- The program may end with this status, this text in its output, and the line for this refusal. The text is delivered, and the code is that of the refusal, or
-- of none
pub record HandsReduction (automaton : List ℕ) (code : RefusalCode) (old new : List ℕ) (count status : ℕ) : Type 0 where
  pub text : List ℕ
  pub ended : ℕ
  pub reason : Option Refusal
  pub shown : MayEndReduction automaton ended text (option_map_or reduce_message reason [])
  pub coded : code ≡ code_for reason
  pub delivered : Delivers ended text old new count status

-- on the way there: the text of a reduced automaton, or the refusal of the text
abbrev pub ReducesText : List ℕ → Result (List ℕ) Refusal → Type 0
ReducesText text = Then (ReadsHoa stated_limits stated_form text) (Makes false)
