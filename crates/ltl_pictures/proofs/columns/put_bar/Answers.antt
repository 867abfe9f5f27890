use Rattle.ltl_streams.proofs.PrintLaws.{prints_as, prints_nothing}
use Rattle.ltl_pictures.proofs.LineLaws.{bar_here, bar_not}
use Rattle.ltl_pictures.proofs.columns.put_bar.Goals as goal

pub returns-then-i-stem : goal.returns-then-i-stem
returns-then-i-stem g c = prints_as (bar_here c.args.i c.args.stem c.if-i-stem.true) c.put.ensures

pub returns-else-i-stem : goal.returns-else-i-stem
returns-else-i-stem g c = prints_as (bar_not c.args.i c.args.stem c.if-i-stem.false) (prints_nothing _)
