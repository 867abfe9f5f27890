use Rattle.std.proofs.Common.{sym, subst}
use Rattle.ltl_alt.specs.declared.memo.JoinKey.{JoinKey}
use Rattle.ltl_alt.specs.MemoView.{AreJoins}
use Rattle.ltl_alt.proofs.JoinLaws.{joins_longer, joins_more, new_join}
use Rattle.ltl_alt.proofs.memo.Memo.join.Goals as goal

pub returns-in-Some-clause-joined : goal.returns-in-Some-clause-joined
returns-in-Some-clause-joined g c = λ T fit w. c.in-Some.ensures T c.args.pruning.now.rule w

pub returns-clause-joins : goal.returns-clause-joins
returns-clause-joins g c = λ T fit w.
    let r = c.args.pruning.now.rule in
    let old = c.args.self.now.lists.keys in
    let new = c.number.new.self.lists.keys in
    let longer = c.in_ok-joined.ensures.longer in
    let key : JoinKey = record { left = c.args.left; right = c.args.right } in
    let is = new_join T r old new key c.in_ok-joined.joined c.in_ok-kept.kept c.requires.within.0 c.requires.within.1 longer c.in_ok-joined.ensures.number (c.in_ok-kept.ensures T fit) in
    let before = subst (AreJoins T r new) (sym c.in_ok-joined.ensures.joins) (joins_longer T r old new c.args.self.now.joins.entries longer w) in
    joins_more T r new c.number.new.self.joins.entries c.insert.new.self.entries key c.in_ok-joined.joined before is c.in_ok-insert.ensures.entries

pub returns-clause-joined : goal.returns-clause-joined
returns-clause-joined g c = λ T fit w.
    new_join T c.args.pruning.now.rule c.args.self.now.lists.keys c.number.new.self.lists.keys (record { left = c.args.left; right = c.args.right }) c.in_ok-joined.joined c.in_ok-kept.kept c.requires.within.0 c.requires.within.1
    c.in_ok-joined.ensures.longer c.in_ok-joined.ensures.number (c.in_ok-kept.ensures T fit)
