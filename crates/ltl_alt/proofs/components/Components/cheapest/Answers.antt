use Rattle.std.proofs.Common.{◌<◌, arith, length, slice_index_or}
use Rattle.ltl_alt.proofs.JoinOrderLaws.{taken_there}
use Rattle.ltl_alt.proofs.TransitionLaws.{index_same}
use Rattle.ltl_alt.proofs.components.Components.cheapest.Goals as goal

pub ways-requires : goal.ways-requires
ways-requires g c =
    let lists = c.args.lists.now in
    let outer = c.second-test.true in
    let inner = c.first-test.true in
    let end = c.second.auto.second-end in
    let last = c.first.auto.first-end in
    let second : c.second.second < length lists = omega arith in
    let first : c.first.first < length lists = omega arith in
    record {
      within = (
        c.requires.within (slice_index_or lists c.first.first 0) (taken_there lists c.first.first (slice_index_or lists c.first.first 0) first (index_same lists c.first.first 0 (slice_index_or lists c.first.first 0) first)),
        c.requires.within (slice_index_or lists c.second.second 0) (taken_there lists c.second.second (slice_index_or lists c.second.second 0) second (index_same lists c.second.second 0 (slice_index_or lists c.second.second 0) second)),
      );
    }
