use Rattle.std.proofs.Common.{arith, refl, ◌≡◌, ◌∙◌, Ok}
use Rattle.ltl_check.specs.declared.breadth.Outcome.TheVariants.{Nothing}
use Rattle.ltl_check.proofs.BreadthLaws.{layer_end}
use Rattle.ltl_check.proofs.ShortestLaws.{paid_then}
use Rattle.ltl_check.proofs.breadth.Breadth.search.Goals as goal

pub overflow_add-self : goal.overflow_add-self
overflow_add-self g c = let f = c.layers.invariant.few in omega arith

pub layers-preserved : goal.layers-preserved
layers-preserved g c =
    let e : c.layer.result ≡ Ok Nothing = (let w = c.in_ok-other.was in let i = c.in-Nothing.is in cc) in
    let o = c.layer.ensures.on e in
    let d = rw e at c.layer.ensures.same in
    let t = c.layers-test.true in
    let m = c.ranges.limit.fits in
    record {
      stands = layer_end (g.N.Numbered.net c.args.net.now) c.args.task.bases c.args.task.sets _ _ _ _ _ o.0 o.1 _ _ refl c.len-self.ensures;
      few = omega arith;
      paid = paid_then _ _ _ _ _ _ c.layers.invariant.paid c.layer.ensures.paid;
    }

pub returns-in_default : goal.returns-in_default
returns-in_default g c =
    let w : c.layer.result ≡ Ok c.in_ok-other.other = c.in_ok-other.was in
    let d = rw w at c.layer.ensures.same in
    let t = c.layers-test.true in
    record {
      closed = λ i e. (c.layer.ensures.closed i (w ∙ e), omega arith);
      none = λ e. absurd (c.in_default.not-Nothing (let f = e in cc));
      paid = paid_then _ _ _ _ _ _ c.layers.invariant.paid c.layer.ensures.paid;
      spent = λ e. c.layer.ensures.spent (w ∙ e);
    }
