use Rattle.std.proofs.Common.{[], sym, ◌∙◌}
use Rattle.ltl_alt.proofs.MapLaws.{stored_at}
use Rattle.ltl_alt.proofs.memo.Memo.pairs.Goals as goal

pub returns : goal.returns
returns g c = c.as_slice.ensures ∙ sym (stored_at [] c.args.self.now.lists.keys c.args.list c.get.result.now c.get.ensures).1
