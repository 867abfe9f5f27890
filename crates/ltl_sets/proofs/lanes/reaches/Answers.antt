use Rattle.std.proofs.Common.{nat_eq, not, ◌/◌, ◌%◌, ◌^◌, get_or}
use Rattle.std.proofs.lemmas.Bool.Decides.{Decides-eqb, Decides-not}
use Rattle.ltl_sets.proofs.LaneLaws.{reaches_Decides}
use Rattle.ltl_sets.proofs.lanes.reaches.Goals as goal

pub returns : goal.returns
returns c =
    let word = get_or c.args.lanes (c.args.i / 64) 0 / 2 ^ (c.args.i % 64) in
    reaches_Decides c.args.lanes c.requires.words c.args.i c.requires.below (not (nat_eq word 0)) c.has_later.result
    (Decides-not (nat_eq word 0) (Decides-eqb word 0)) c.has_later.ensures
