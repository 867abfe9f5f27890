use Rattle.ltl_claim.proofs.OptionLaws.{joins_first, joins_more, joins_same}
use Rattle.ltl_claim.proofs.resolve.put_alternative.Goals as goal

pub returns-then-not-branch : goal.returns-then-not-branch
returns-then-not-branch g c = λ P gs j. joins_same P _ c.args.option.now c.args.some c.in_ok-put_enabled.field-0 _ _ (c.in_ok-put_enabled.ensures P) gs c.if-not-branch.true j

pub returns-then-not-some : goal.returns-then-not-some
returns-then-not-some g c = λ P gs j. joins_first P _ c.args.option.now c.args.some c.in_ok-put_enabled.field-0 _ _ (c.in_ok-put_enabled.ensures P) gs c.if-not-branch.false c.if-not-some.true j

pub returns : goal.returns
returns g c = λ P gs j. joins_more P _ c.args.option.now c.args.some c.in_ok-put_enabled.field-0 _ _ (c.in_ok-put_enabled.ensures P) gs _ c.if-not-branch.false c.if-not-some.false c.in_ok-push.ensures.items j
