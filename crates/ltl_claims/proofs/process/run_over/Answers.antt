use Rattle.std.proofs.Common.{map}
use Rattle.std.specs.Prelude.{Err, Ok}
use Rattle.ltl_claims.proofs.process.run_over.Goals as goal

pub returns-in-Err-clause-shown : goal.returns-in-Err-clause-shown
returns-in-Err-clause-shown g c = let h = rw c.new-files.ensures at c.claim_words.ensures.shown in (Err c.in-Err.fault, h)

pub returns-in-Err-texts-clause-shown : goal.returns-in-Err-texts-clause-shown
returns-in-Err-texts-clause-shown g c = let h = rw c.new-files.ensures at c.claim_words-in-Err-texts.ensures.shown in (Err c.in-Err-texts.fault, h)

pub returns-clause-shown : goal.returns-clause-shown
returns-clause-shown g c = let h = rw c.new-files.ensures at c.claim_words-2.ensures.shown in (Ok (map (λ w. w.now) c.as_slice-2.result.now), h)
