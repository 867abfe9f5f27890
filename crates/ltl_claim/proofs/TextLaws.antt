-- The bytes that were read of a source so far.
use Rattle.std.proofs.Common.{◌≡◌, ◌∙◌, ℕ, ◌+◌, ◌≤◌, List, ◌++◌, length, Option, Some, None, sym, ap, arith, append_assoc, take, length-append, length-take}
use Rattle.std.specs.Io.KnownBytes.{Consumes}
use Rattle.ltl_spec.specs.Tools.Stage.{Open}
use Rattle.ltl_streams.specs.Streams.{GivesSome, SourceState}
use Rattle.ltl_claim.specs.ClaimAnswer.{most_bytes}
use Rattle.ltl_claim.specs.Reading.{TakesUpTo}

pub consumes_trans : (o m n : Option (List ℕ)) (a b : List ℕ) → Consumes o m a → Consumes m n b → Consumes o n (a ++ b)
consumes_trans None m n a b p q = tt
consumes_trans (Some x) (Some y) (Some z) a b p q = p ∙ ap (λ w. a ++ w) q ∙ sym (append_assoc a b z)
consumes_trans (Some x) (Some y) None a b p q = q
consumes_trans (Some x) None n a b p q = absurd p

-- the text is what was read, and the source is open if it was
pub record IsSoFar (old now : SourceState) (text : List ℕ) : Type 0 where
  pub few : length text ≤ most_bytes + 1
  pub taken : Consumes old.rest now.rest text
  pub same : now.through ≡ old.through
  pub stays : old.stage ≡ Open → now.stage ≡ Open

-- a piece more
pub more_up_to : (old now new : SourceState) (text : List ℕ) → IsSoFar old now text → (count : ℕ) (room : List ℕ) → GivesSome now new count room → length text + length room ≤ most_bytes + 1
    → TakesUpTo old.rest new.rest
more_up_to old now new text h count room g few = (
  text ++ take count room,
  consumes_trans old.rest now.rest new.rest text (take count room) h.taken g.taken,
  (let l = length-append text (take count room) in let t = length-take count room in omega (arith, few, l, t)),
)
