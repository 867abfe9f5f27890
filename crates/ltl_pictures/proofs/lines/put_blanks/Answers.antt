use Rattle.std.proofs.Common.{◌≤◌, arith}
use Rattle.ltl_streams.proofs.PrintLaws.{lacks_end, lacks_step}
use Rattle.ltl_pictures.proofs.LineLaws.{blanks_end, blanks_go_on}
use Rattle.ltl_pictures.proofs.lines.put_blanks.Goals as goal

pub blanks-preserved : goal.blanks-preserved
blanks-preserved g c = lacks_step c.blanks.invariant _ (blanks_go_on c.blanks.at c.args.to c.blanks-test.true) c.put.ensures

pub returns : goal.returns
returns g c = let l : c.args.to ≤ c.blanks.at = (let f = c.blanks-test.false in omega (arith, f)) in lacks_end c.blanks.invariant (blanks_end c.blanks.at c.args.to l)
