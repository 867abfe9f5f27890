-- The picture of an automaton in memory, and how a call returns it.
use Rattle.std.specs.Prelude.{◌≡◌, ℕ, List, [], Option, None, Result, Ok}
use Rattle.std.specs.Option.{option_map_or}
use Rattle.ltl_spec.specs.Tools.Outcome.{Ended, Then}
use Rattle.ltl_spec.specs.Tools.Refusal.{Refusal}
use Rattle.ltl_pictures.specs.DotText.{dot_text}
use Rattle.ltl_draw.specs.Messages.{draw_message}
use Rattle.ltl_draw.specs.Plans.{Picture}
use Rattle.ltl_draw.specs.Runs.{MayDraw, ReadsNamedText}
use Rattle.ltl_c.specs.declared.refusal_code.RefusalCode.{RefusalCode}
use Rattle.ltl_c.specs.Calls.{Delivers, run_with}
use Rattle.ltl_c.specs.Codes.{code_for}

-- with this text in its input, `ltldraw` may end with this status, this output and this message
abbrev pub MayEndDrawing : List ℕ → ℕ → List ℕ → List ℕ → Type 0
MayEndDrawing text status output message = MayDraw (Ok (Picture None)) (Ended text) (run_with status output message)

-- The program may end with this status, this picture in its output, and the line for this refusal. The picture is delivered, and the code is that of the
-- refusal, or of none
pub record HandsPicture (automaton : List ℕ) (code : RefusalCode) (old new : List ℕ) (count status : ℕ) : Type 0 where
  pub picture : List ℕ
  pub ended : ℕ
  pub reason : Option Refusal
  pub shown : MayEndDrawing automaton ended picture (option_map_or draw_message reason [])
  pub coded : code ≡ code_for reason
  pub delivered : Delivers ended picture old new count status

-- on the way there: the picture of the automaton in a text, with the names that it has there, or the refusal of the text
abbrev pub DrawsText : List ℕ → Result (List ℕ) Refusal → Type 0
DrawsText text = Then (ReadsNamedText text) (λ N r. r ≡ Ok (dot_text N))
