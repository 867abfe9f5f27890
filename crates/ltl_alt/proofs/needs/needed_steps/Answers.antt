use Rattle.std.proofs.Common.{◌<◌, ◌+◌, ◌∙◌, ap, arith, length, take, true}
use Rattle.std.specs.Prelude.{slice_index_or}
use Rattle.std.proofs.lemmas.List.{length-set, take_more}
use Rattle.ltl_spec.proofs.Collections.ListLaws.{Has-at}
use Rattle.ltl_alt.proofs.NeedsLaws.{root_more}
use Rattle.ltl_alt.proofs.needs.needed_steps.Goals as goal

pub roots-preserved : goal.roots-preserved
roots-preserved g c =
    let rs = c.args.roots.now in
    let k = c.roots.k in
    let r = slice_index_or rs k 0 in
    let ns = c.roots.needed.items in
    let count = c.roots.invariant.count in
    let step = c.requires.inside r (Has-at rs k 0 c.roots-test.true) in
    let within : r < length ns = omega (arith, count, step) in
    record {
      count = ap length c.need.ensures ∙ length-set ns r true ∙ count;
      roots = root_more (take k rs) (take (k + 1) rs) r ns c.need.new.needed.items (take_more rs k 0 c.roots-test.true) c.need.ensures within c.roots.invariant.roots;
    }
