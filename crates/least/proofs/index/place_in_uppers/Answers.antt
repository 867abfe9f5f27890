use Rattle.std.proofs.Common.{◌≤◌, arith, length}
use Rattle.least.proofs.SearchLaws.{uppers_clear}
use Rattle.least.proofs.index.place_in_uppers.Goals as goal

pub returns : goal.returns
returns g c =
    let all : length c.args.index.now.uppers.items ≤ c.numbers.number = omega (arith, c.numbers-test.false, c.len-number-end.ensures) in
    uppers_clear g.T.Below.below (g.C.Counting.counts c.args.counting.now) g.T.Elements.needs g.T.Elements.asks g.T.Elements.lacking g.met.T.Below.needed g.met.T.Below.lacked c.args.item.now c.args.items.now c.args.index.now.uppers.items c.numbers.number
    c.requires.uppers all c.numbers.invariant
