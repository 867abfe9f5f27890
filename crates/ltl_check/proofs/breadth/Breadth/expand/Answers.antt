use Rattle.std.proofs.Common.{arith, ◌∙◌, ◌≡◌, Ok, None}
use Rattle.ltl_check.proofs.BreadthLaws.{expand_end}
use Rattle.ltl_check.proofs.ShortestLaws.{paid_one}
use Rattle.ltl_check.proofs.breadth.Breadth.expand.Goals as goal

pub returns-in_err-number-clause-paid : goal.returns-in_err-number-clause-paid
returns-in_err-number-clause-paid g c =
    let f = c.if-self-eq0.false in
    let e = c.look.ensures.left in
    paid_one _ _ c.looks.self.left _ _ _ c.looks.invariant.paid (omega arith) c.look.ensures.looked

pub looks-preserved : goal.looks-preserved
looks-preserved g c =
    let e : c.look.result ≡ Ok None = (let w = c.in_ok-number.was in let i = c.in-None.is in cc) in
    let s = rw e at c.look.ensures.same in
    let o = c.looks.invariant.same in
    let f = c.if-self-eq0.false in
    let v = c.look.ensures.left in
    record {
      expands = c.look.ensures.on e;
      same = (s.0 ∙ o.0, s.1 ∙ o.1, s.2 ∙ o.2);
      paid = paid_one _ _ c.looks.self.left _ _ _ c.looks.invariant.paid (omega arith) c.look.ensures.looked;
    }

pub returns-clause-on : goal.returns-clause-on
returns-clause-on g c _ = expand_end (g.N.Numbered.net c.args.net.now) c.args.task.bases c.args.task.sets _ _ _ _ _ _ c.get.result.now c.looks.invariant.expands c.get.ensures (let t = c.looks-test.false in let p = c.pairs_at.ensures in omega arith)
