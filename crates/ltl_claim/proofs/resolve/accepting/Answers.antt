use Rattle.std.proofs.Common.{◌<◌, ◌≤◌, subst}
use Rattle.ltl_claim.proofs.StateLaws.{marks_all, marks_more}
use Rattle.ltl_claim.proofs.resolve.accepting.Goals as goal

pub labels-preserved : goal.labels-preserved
labels-preserved g c =
    marks_more (λ n. n.now) c.args.labels.now.entries c.args.count c.labels.i c.labels.marks.items c.mark_label.new.marks.items (subst (λ n. c.labels.i < n) c.len-i-end.ensures.len c.labels-test.true)
    c.mark_label.ensures c.labels.invariant

pub returns : goal.returns
returns g c =
    marks_all (λ n. n.now) c.args.labels.now.entries c.args.count c.labels.i c.labels.marks.items (subst (λ n. n ≤ c.labels.i) c.len-i-end.ensures.len c.labels-test.false) c.labels.invariant
