-- The words of a process, or why there are none.
use Rattle.std.specs.Prelude.{◌≡◌, Result, Ok, Err, MatchResult}
use Rattle.std.specs.IoError.{error_kind}
use Rattle.std.specs.declared.io.Error.{Error}
use Rattle.std.specs.declared.io.ErrorKind.{ErrorKind}
use Rattle.std.specs.declared.io.ErrorKind.TheVariants as kind
use Rattle.std.specs.declared.vec.IntoIter.{IntoIter}
use Rattle.std.specs.declared.vec.Vec.{Vec}
use Rattle.std.specs.Vec.Iter.{into_iter_items}
use Rattle.ltl_words.specs.declared.request.PlanFault.{PlanFault}
use Rattle.ltl_words.specs.declared.request.PlanFault.TheVariants as fault

-- want of memory, or words that mean nothing
abbrev pub fault_for : ErrorKind → PlanFault
fault_for kind.OutOfMemory = fault.OutOfMemory
fault_for _ = fault.Usage

-- the words that the system gave, unless they can't be kept, or else why it gave none
abbrev pub HandsOver : {W A B : Type 0} → Result (IntoIter W B) Error → Result (Vec W A) PlanFault → Type 0
HandsOver (Ok args) r = MatchResult r (λ words. words.items ≡ into_iter_items args) (λ f. f ≡ fault.OutOfMemory)
HandsOver (Err e) r = r ≡ Err (fault_for (error_kind e))
