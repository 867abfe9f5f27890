use Rattle.std.proofs.Common.{[], sym, ◌∙◌}
use Rattle.ltl_alt.proofs.MapLaws.{stored_at}
use Rattle.ltl_alt.proofs.finals.Finals.transitions.Goals as goal

pub returns-then-number-len : goal.returns-then-number-len
returns-then-number-len g c = c.as_slice.ensures ∙ sym (stored_at [] c.args.self.now.lists.keys c.args.number c.get.result.now c.get.ensures).1
