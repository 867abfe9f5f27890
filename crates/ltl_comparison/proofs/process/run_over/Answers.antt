use Rattle.std.proofs.Common.{map}
use Rattle.std.specs.Prelude.{Err, Ok}
use Rattle.ltl_comparison.proofs.process.run_over.Goals as goal

pub returns-in-Err-clause-shown : goal.returns-in-Err-clause-shown
returns-in-Err-clause-shown g c = (Err c.in-Err.fault, c.compare_words.ensures.shown)

pub returns-in-Err-texts-clause-shown : goal.returns-in-Err-texts-clause-shown
returns-in-Err-texts-clause-shown g c = (Err c.in-Err-texts.fault, c.compare_words-in-Err-texts.ensures.shown)

pub returns-clause-shown : goal.returns-clause-shown
returns-clause-shown g c = (Ok (map (λ w. w.now) c.as_slice-2.result.now), c.compare_words-2.ensures.shown)
