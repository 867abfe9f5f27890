use Rattle.std.proofs.Common.{sym, subst}
use Rattle.ltl_spec.specs.Collections.Lists.{HasNoRepeats}
use Rattle.ltl_spec.proofs.Collections.ListLaws.{HasNoRepeats-with_new}
use Rattle.ltl_passes.proofs.ClassLaws.{same_place, place_Decides}
use Rattle.ltl_passes.proofs.partition.state_signature.Goals as goal

pub returns-clause-distinct : goal.returns-clause-distinct
returns-clause-distinct g c = λ d. subst HasNoRepeats (sym c.in_ok-signature.ensures.keys) (HasNoRepeats-with_new same_place place_Decides c.args.places.now.keys c.args.state d)
