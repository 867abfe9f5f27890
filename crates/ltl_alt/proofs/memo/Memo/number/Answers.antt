use Rattle.std.proofs.Common.{[], ◌∙◌, sym}
use Rattle.ltl_alt.specs.ListHash.{same_pairs, pairs_Decides}
use Rattle.ltl_alt.proofs.MapLaws.{stored_at, longer_new}
use Rattle.ltl_alt.proofs.memo.Memo.number.Goals as goal

pub returns-in_ok-push-clause-number : goal.returns-in_ok-push-clause-number
returns-in_ok-push-clause-number g c =
    let (x, e, d) = c.in_ok-number.ensures.stored in
    let at = stored_at [] c.number.new.self.keys c.in_ok-number.number x e in
    (at.0, at.1 ∙ sym ((pairs_Decides c.args.pairs x).0 d))

pub returns-else-len-count-clause-number : goal.returns-else-len-count-clause-number
returns-else-len-count-clause-number g c =
    let (x, e, d) = c.in_ok-number.ensures.stored in
    let at = stored_at [] c.number.new.self.keys c.in_ok-number.number x e in
    (at.0, at.1 ∙ sym ((pairs_Decides c.args.pairs x).0 d))

pub returns-else-len-count-clause-longer : goal.returns-else-len-count-clause-longer
returns-else-len-count-clause-longer g c = longer_new same_pairs c.args.self.now.lists.keys c.number.new.self.keys c.args.pairs c.in_ok-number.ensures.keys
