use Rattle.std.proofs.Common.{◌≡◌, ◌<◌, ◌+◌, ◌∙◌, ap, arith, length, subst, sym, take}
use Rattle.std.specs.Prelude.{slice_index_or}
use Rattle.std.proofs.lemmas.List.{length-map, take_all, take_more}
use Rattle.std.proofs.lemmas.Option.{slice_get_within}
use Rattle.ltl_spec.proofs.Transitions.IndependenceTests.{no_support}
use Rattle.ltl_alt.specs.Columns.{answers_at}
use Rattle.ltl_alt.specs.WantedView.{AreWantedBelow}
use Rattle.ltl_alt.specs.Tests.{step_of, steps_of}
use Rattle.ltl_alt.proofs.WantedLaws.{AreRootsWanted, lack_none, lack_wanted, no_roots, roots_begin, roots_next, wanted_length}
use Rattle.ltl_alt.proofs.wanted.block_lacks.Goals as goal

pub roots-init : goal.roots-init
roots-init g c =
    let ss = c.args.fulfilment.now.steps.items in
    let ws = c.resize-2.new.self.items in
    let a = c.in_ok-resize-2.ensures.len in
    let b = c.len.ensures in
    let count : length ws ≡ length ss = omega (arith, a, b) in
    record { count = count; wanted = roots_begin (steps_of ss) c.args.block.now c.put_columns.new.columns.items ws (count ∙ sym (length-map ss step_of)) }

pub roots-preserved : goal.roots-preserved
roots-preserved g c =
    let ss = steps_of c.args.fulfilment.now.steps.items in
    let rs = c.args.roots.now in
    let k = c.roots.k in
    let r = slice_index_or rs k 0 in
    let all = c.in_ok-needing.needing.all in
    let ws = c.roots.wanted.items in
    record {
      count = ap length c.want.ensures ∙ wanted_length ws r all ∙ c.roots.invariant.count;
      wanted = roots_next ss c.args.block.now c.put_columns.new.columns.items all c.in_ok-needing.ensures.all (take k rs) (take (k + 1) rs) r ws c.want.new.wanted.items (take_more rs k 0 c.roots-test.true) c.want.ensures c.roots.invariant.wanted;
    }

pub want_below-requires : goal.want_below-requires
want_below-requires g c = c.roots.invariant.count

pub returns : goal.returns
returns g c =
    let f = c.args.fulfilment.now in
    let rs = c.args.roots.now in
    let ps = c.args.block.now in
    let cs = c.put_columns.new.columns.items in
    let old = c.roots.wanted.items in
    let new = c.want_below.new.wanted.items in
    let vs = c.want_below.new.lacks.items in
    let whole : take c.roots.k rs ≡ rs = take_all c.roots.k rs (omega arith) in
    let a = c.in_ok-resize.ensures.len in
    let b = c.want_below.ensures.count in
    let count : length vs ≡ length ps = omega (arith, a, b) in
    let first = subst (λ xs. AreRootsWanted (steps_of f.steps.items) ps cs xs old) whole c.roots.invariant.wanted in
    let below = subst (λ xs. AreWantedBelow f xs old 0 new vs) c.as_slice.ensures.value c.want_below.ensures.wanted in
    record {
      count = count;
      each = λ j p found.
          let inside : j < length vs = let l = slice_get_within ps j p found in omega (arith, count, l) in
          lack_wanted f rs p (answers_at j cs) (answers_at j old) (answers_at j new) (slice_index_or vs j no_support) (c.in_ok-put_columns.ensures ps c.in_ok-needing.ensures j p found) (first j p found) (below j inside);
    }

pub returns-then-is_empty : goal.returns-then-is_empty
returns-then-is_empty g c =
    let rs = c.args.roots.now in
    let a = c.in_ok-resize.ensures.len in
    record {
      count = omega (arith, a);
      each = λ j p found. lack_none c.args.fulfilment.now rs p (slice_index_or c.resize.new.self.items j no_support) (no_roots c.is_empty.result rs c.if-is_empty.true c.is_empty.ensures);
    }
