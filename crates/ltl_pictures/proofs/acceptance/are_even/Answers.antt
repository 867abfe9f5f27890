use Rattle.std.proofs.Common.{◌∙◌, ap, arith, sym, []}
use Rattle.ltl_pictures.specs.Picture.{is_even}
use Rattle.ltl_pictures.proofs.PutLaws.{all_pass, one_fails}
use Rattle.ltl_pictures.proofs.acceptance.are_even.Goals as goal

pub returns-then-not-is_even : goal.returns-then-not-is_even
returns-then-not-is_even g c =
    sym (one_fails is_even [] c.args.automaton.now.edges c.loop-k.k (omega arith) (ap is_even (sym c.edges.ensures) ∙ sym c.is_even.ensures ∙ c.if-not-is_even.true))

pub returns : goal.returns
returns g c = sym (all_pass is_even [] c.args.automaton.now.edges (λ j lt. c.loop-k.invariant j (omega arith)))
