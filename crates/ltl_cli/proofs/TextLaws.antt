-- What is read of a text in memory.
use Rattle.std.proofs.Common.{◌≡◌, ◌⊎◌, subst, refl, ℕ, inl, inr, List, Some}
use Rattle.std.specs.Prelude.{Ok, Err}
use Rattle.ltl_spec.specs.Hoa.HoaReading.{stated_form}
use Rattle.ltl_spec.specs.Tools.Limits.{stated_limits}
use Rattle.ltl_spec.specs.Tools.Outcome.{Text}
use Rattle.ltl_spec.specs.Tools.Programs.{InputReads, ReadsHoa}
use Rattle.ltl_spec.specs.Tools.Stage as stages
use Rattle.ltl_streams.specs.StageView.{stage_of}
use Rattle.ltl_streams.specs.declared.stage.Stage.{Stage}
use Rattle.ltl_streams.specs.declared.stage.Stage.TheVariants as stage
use Rattle.ltl_syntax.specs.FormulaView.{FormulaView, reading_of}
use Rattle.ltl_syntax.specs.ReadText.{IsReadAs, IsRefusedFor}
use Rattle.ltl_syntax.specs.declared.fault.ReadFault.{ReadFault}
use Rattle.ltl_syntax.specs.declared.fault.ReadFault.TheVariants as read
use Rattle.ltl_hoa.specs.Reading.{AnswersHeld, LeavesStage}
use Rattle.ltl_hoa.specs.declared.fault.HoaFault.{HoaFault}
use Rattle.ltl_hoa.specs.declared.fault.HoaFault.TheVariants as hoa
use Rattle.ltl_cli.specs.declared.refusal.Refusal.TheVariants.{OutOfMemory}
use Rattle.ltl_cli.specs.Refusals.{of_hoa, of_read, refusal_of}

pub formula_reads : (text : List ℕ) (f : FormulaView) → IsReadAs text f → InputReads stated_limits (Text text) (Ok (reading_of f))
formula_reads text f h = inr (text, refl, h)

pub formula_refused : (text : List ℕ) (e : ReadFault) → IsRefusedFor text e → (of_read e ≡ OutOfMemory) ⊎ InputReads stated_limits (Text text) (Err (refusal_of (of_read e)))
formula_refused text read.TooLong h = inr (inr (text, refl, h))
formula_refused text (read.AtByte place kind) h = inr (inr (text, refl, h))
formula_refused text read.TooManyPropositions h = inr (inr (text, refl, h))
formula_refused text read.OutOfMemory h = inl refl

-- a text of which no read fails is refused as its definition says
pub automaton_refused : (text : List ℕ) (f : HoaFault) → AnswersHeld (Some text) (Err f) → (f ≡ hoa.CannotRead → ⊥)
    → (of_hoa f ≡ OutOfMemory) ⊎ ReadsHoa stated_limits stated_form text (Err (refusal_of (of_hoa f)))
automaton_refused text (hoa.AtLine line kind) (t, s, h) n = inr (subst (λ (x : List ℕ). ReadsHoa stated_limits stated_form x (Err (refusal_of (of_hoa (hoa.AtLine line kind))))) s h)
automaton_refused text hoa.CannotRead a n = absurd (n refl)
automaton_refused text hoa.OutOfMemory a n = inl refl

broken_only : (s : Stage) → stage_of s ≡ stages.Broken → s ≡ stage.Broken
broken_only stage.Open e = cc
broken_only stage.Closed e = cc
broken_only stage.Broken e = refl
broken_only stage.Misused e = cc

-- of a source that no read breaks
pub never_broken : (f : HoaFault) (s : Stage) → LeavesStage (Err f) (stage_of s) → (s ≡ stage.Broken → ⊥) → f ≡ hoa.CannotRead → ⊥
never_broken f s l n e = n (broken_only s (subst (λ (x : HoaFault). LeavesStage (Err x) (stage_of s)) e l))
