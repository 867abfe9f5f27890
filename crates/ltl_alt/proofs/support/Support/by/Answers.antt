use Rattle.std.proofs.Common.{refl}
use Rattle.ltl_alt.proofs.SupportLaws.{support_of_is}
use Rattle.ltl_alt.proofs.support.Support.by.Goals as goal

pub returns : goal.returns
returns c = rw (← c.pair.view_is) (support_of_is (record { cube = c.pair.inside.cube; targets = c.pair.inside.targets }) _ _ _ c.letter.ensures c.forbidden.ensures refl)
