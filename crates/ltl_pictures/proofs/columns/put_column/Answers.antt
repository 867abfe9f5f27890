use Rattle.std.proofs.Common.{refl}
use Rattle.ltl_streams.proofs.PrintLaws.{lacks_all, lacks_last, lacks_step}
use Rattle.ltl_pictures.proofs.columns.put_column.Goals as goal

pub returns : goal.returns
returns g c = lacks_last (lacks_step (lacks_all _ _) _ refl c.put_bar.ensures) c.put.ensures
