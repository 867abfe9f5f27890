use Rattle.std.proofs.Common.{◌∙◌, ap, arith}
use Rattle.ltl_text.specs.Options.{is_empty}
use Rattle.ltl_text.proofs.EdgeLaws.{free_loop}
use Rattle.ltl_text.proofs.label.is_free_loop.Goals as goal

pub returns-then-edge-k : goal.returns-then-edge-k
returns-then-edge-k c = c.has_no_literals.ensures ∙ ap is_empty c.cube.ensures ∙ free_loop c.args.edges c.args.k c.requires (omega (arith, c.in-len1.len_at_least, c.in-len1.len_below)) c.if-edge-k.true
