use Rattle.std.proofs.Common.{◌≡◌, ◌≤◌, ◌*◌, ◌∙◌, arith, false, length, sym}
use Rattle.least.specs.Blocks.{part_at}
use Rattle.least.specs.Lookups.{is_above, is_found}
use Rattle.least.proofs.PartLaws.{any_of_part, parts_clear}
use Rattle.least.proofs.SearchLaws.{clear_more}
use Rattle.least.proofs.index.place_in_blocks.Goals as goal

pub returns : goal.returns
returns g c =
    let p = is_found g.T.Below.below (g.C.Counting.counts c.args.counting.now) c.args.item.now in
    let cover : length c.args.items.now ≤ 256 * c.numbers.number = omega (arith, c.requires.cover, c.numbers-test.false, c.len-number-end.ensures) in
    sym (parts_clear p c.args.items.now c.numbers.number cover c.numbers.invariant)

pub numbers-preserved : goal.numbers-preserved
numbers-preserved g c =
    clear_more (λ n. is_above g.T.Below.below (g.C.Counting.counts c.args.counting.now) (part_at n c.args.items.now) c.args.item.now ≡ false) c.numbers.number c.numbers.invariant (sym c.in_default.ensures)

pub returns-in-Some : goal.returns-in-Some
returns-in-Some g c =
    let p = is_found g.T.Below.below (g.C.Counting.counts c.args.counting.now) c.args.item.now in
    sym (any_of_part p c.numbers.number c.args.items.now (sym c.in-Some.ensures))
