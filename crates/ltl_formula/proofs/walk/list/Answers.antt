use Rattle.std.proofs.Common.{Bool, true, List, subst, sym}
use Rattle.ltl_spec.proofs.NormalForms.RowsCollected.{AreFlags, flags_set}
use Rattle.ltl_formula.proofs.SmallLemmas.{set_there}
use Rattle.ltl_formula.proofs.walk.list.Goals as goal

pub returns-clause-flags : goal.returns-clause-flags
returns-clause-flags g c =
    subst (λ (fs : List Bool). AreFlags fs c.push.new.self.items) (sym (set_there c.args.flags.now.items c.deref_mut.result.now c.args.k true c.deref_mut.ensures.value)) (flags_set c.args.flags.now.items c.args.listed.now.items _ c.args.k c.requires.inside c.requires.flags c.in_ok-push.ensures.ok)
