use Rattle.std.proofs.Common.{◌∙◌}
use Rattle.ltl_word.proofs.RowLaws.{uses_more}
use Rattle.ltl_word.proofs.uses.last_uses.Goals as goal

pub loop-i-preserved : goal.loop-i-preserved
loop-i-preserved g c = record {
  long = c.note.ensures.long ∙ c.loop-i.invariant.long;
  used = uses_more c.args.formula.now.nodes c.loop-i.last_uses.items c.note.new.last_uses.items c.node.result c.loop-i.i c.node.ensures.found c.loop-i.invariant.used c.note.ensures.used c.note.ensures.kept;
}
