use Rattle.std.proofs.Common.{append_assoc, refl}
use Rattle.std.specs.Prelude.{codes}
use Rattle.ltl_spec.specs.Words.LassoText.{lasso_text}
use Rattle.ltl_streams.proofs.PrintLaws.{lacks_all, lacks_last, lacks_step, prints_nothing}
use Rattle.ltl_comparison.proofs.answer.put_word.Goals as goal

pub returns-in-Some : goal.returns-in-Some
returns-in-Some g c =
    let first = lacks_step (lacks_all _ _) _ (append_assoc c.args.label.now (lasso_text c.in-Some.word) (codes "\n")) c.put.ensures in
    let second = lacks_step first (codes "\n") refl c.put-in-Some.ensures in
    rw c.in-Some.is (lacks_last second c.put-in-Some-2.ensures)

pub returns-in-None : goal.returns-in-None
returns-in-None g c = rw c.in-None.is (prints_nothing _)
