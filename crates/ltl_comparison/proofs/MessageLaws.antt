-- The text of a message.
use Rattle.std.proofs.Common.{◌≡◌, refl, ◌++◌, ◌<◌, length, arith}
use Rattle.ltl_spec.specs.Tools.Comparer.{Subject, comparer_message, comparer_text, subject_of_text}
use Rattle.ltl_spec.specs.Tools.Limits.{stated_limits}
use Rattle.ltl_spec.specs.Tools.Refusal.{Checker, refusal_text}
use Rattle.ltl_cli.specs.Refusals.{refusal_of}
use Rattle.ltl_cli.specs.declared.refusal.Refusal.{Refusal}
use Rattle.ltl_cli.specs.declared.refusal.Refusal.TheVariants as code

-- any text but the usage is the checker's, behind the name of a formula with a wrong byte
pub not_usage : (s : Subject) (r : Refusal) → (r ≡ code.Usage → ⊥) → subject_of_text s (refusal_of r) ++ refusal_text stated_limits Checker (refusal_of r) ≡ comparer_text stated_limits s (refusal_of r)
not_usage s code.Usage n = absurd (n refl)
not_usage s code.CannotOpen n = refl
not_usage s code.CannotRead n = refl
not_usage s code.CannotWrite n = refl
not_usage s code.OutOfMemory n = refl
not_usage s code.LongFormula n = refl
not_usage s code.TooManyPropositions n = refl
not_usage s code.TooManyRows n = refl
not_usage s code.TooManyElementaryRows n = refl
not_usage s code.LargeAutomaton n = refl
not_usage s code.LongWord n = refl
not_usage s code.LargeProduct n = refl
not_usage s (code.BadFormula place kind) n = refl
not_usage s (code.BadWord place) n = refl
not_usage s (code.BadAutomaton line kind) n = refl

-- a line has a byte
pub line_long : (s : Subject) (r : Refusal) → 0 < length (comparer_message stated_limits s (refusal_of r))
line_long s r = omega arith
