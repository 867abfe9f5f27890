use Rattle.std.proofs.Common.{◌≡◌, ◌∙◌, arith, false, sym, true}
use Rattle.std.specs.Ordering.{nat_cmp}
use Rattle.ltl_spec.specs.Collections.Sets.{is_subset}
use Rattle.ltl_alt.proofs.CountedLaws.{counted_in_round, longer}
use Rattle.ltl_alt.proofs.counted.counted.Goals as goal

pub rounds-smaller : goal.rounds-smaller
rounds-smaller g c =
    let xs = c.rounds.counted in
    let ys = c.rounds.next in
    let test : is_subset nat_cmp ys xs ≡ false = sym c.is_subset.ensures ∙ c.rounds-test.true in
    let more = longer xs ys c.invariant-in-rounds.ensures.rising c.rounds.invariant.more test in
    let few = c.invariant-in-rounds-2.ensures.few in
    omega arith

pub returns : goal.returns
returns g c =
    let test : is_subset nat_cmp c.rounds.next c.rounds.counted ≡ true = sym c.is_subset.ensures ∙ c.rounds-test.false in
    counted_in_round c.args.table.now c.rounds.counted c.rounds.next c.invariant.ensures c.rounds.invariant test
