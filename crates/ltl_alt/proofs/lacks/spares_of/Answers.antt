use Rattle.std.proofs.Common.{arith, subst}
use Rattle.ltl_spec.specs.Collections.Sets.{Has}
use Rattle.ltl_alt.proofs.SpareLaws.{among_part, spares_added}
use Rattle.ltl_alt.proofs.lacks.spares_of.Goals as goal

pub rounds-init : goal.rounds-init
rounds-init g c = record { within = omega arith; spares = λ s h. absurd (subst (λ xs. Has xs s) c.in_ok-spares.ensures.items h) }

pub rounds-preserved : goal.rounds-preserved
rounds-preserved g c = record {
  within = omega arith;
  spares = spares_added c.args.fulfilment.now c.args.roots.now c.args.pairs.now _ c.in_ok-lacks.lacks.items c.as_slice.result.now c.rounds.spares.items c.put_spares.new.spares.items (λ p h. among_part c.args.pairs.now c.rounds.from _ p h) c.as_slice.ensures.value c.in_ok-lacks.ensures
      c.in_ok-put_spares.ensures c.rounds.invariant.spares;
}
