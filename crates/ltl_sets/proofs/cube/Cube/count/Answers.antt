use Rattle.std.proofs.Common.{◌+◌, ◌≡◌, ◌∙◌, ap, arith, length}
use Rattle.ltl_sets.proofs.CountLaws.{signs_counted}
use Rattle.ltl_sets.proofs.cube.Cube.count.Goals as goal

pub returns : goal.returns
returns c =
    signs_counted c.args.self.now c.count.result c.count-2.result (c.count.ensures ∙ ap (λ l. length l) c.letter.ensures)
    (c.count-2.ensures ∙ ap (λ l. length l) c.forbidden.ensures)

pub overflow_add-result : goal.overflow_add-result
overflow_add-result c = let all : c.count.result + c.count-2.result ≡ length c.args.self.now = returns c in omega (arith, all, c.invariant.ensures.few)
