use Rattle.std.proofs.Common.{◌+◌, ◌<◌, arith, length, subst, sym}
use Rattle.ltl_spec.specs.Collections.Sets.{Has}
use Rattle.ltl_spec.proofs.Collections.Orders.{nat_linear}
use Rattle.ltl_spec.proofs.Collections.SetLaws.{union_left}
use Rattle.ltl_alt.specs.CountedView.{AreClosed}
use Rattle.ltl_alt.proofs.CountedLaws.{closed_step}
use Rattle.ltl_alt.proofs.counted.round.Goals as goal

pub rows-preserved : goal.rows-preserved
rows-preserved g c =
    let t = c.args.table.now in
    let k = c.rows.k in
    let xs = c.rows.next in
    let added = c.places_added-added.result in
    let count = c.len-k-end.ensures.count in
    let test = c.rows-test.true in
    let inside : k < length t.rows = omega arith in
    record {
      more = λ i h. subst (λ ys. Has ys i) (sym c.union-next.ensures) (union_left nat_linear xs added i (c.rows.invariant.more i h));
      closed = subst (λ ys. AreClosed t ys c.fulfilling_of-needed.result (k + 1)) (sym c.union-next.ensures)
          (closed_step t c.args.program.now.steps.keys c.args.program.now.rows.items c.args.leaves.now c.requires.program c.requires.leaves k c.row.result c.until_place-place.result inside c.row.ensures.found c.row.ensures.operands c.until_place-place.ensures.place
          c.fulfilling_of-needed.result xs added c.places_added-added.ensures c.rows.invariant.closed);
    }
