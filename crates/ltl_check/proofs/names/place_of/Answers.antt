use Rattle.std.proofs.Common.{arith}
use Rattle.ltl_check.proofs.NameLaws.{place_found, place_next, place_none}
use Rattle.ltl_check.proofs.names.place_of.Goals as goal

pub returns-then-is_same-clause-place : goal.returns-then-is_same-clause-place
returns-then-is_same-clause-place c = place_found c.args.name.now c.args.names.now c.loop-place.place _ c.is_same.result (omega arith) c.loop-place.invariant c.is_same.ensures c.if-is_same.true

pub loop-place-preserved : goal.loop-place-preserved
loop-place-preserved c = place_next c.args.name.now c.args.names.now c.loop-place.place _ c.is_same.result (omega arith) c.loop-place.invariant c.is_same.ensures c.if-is_same.false

pub returns-clause-place : goal.returns-clause-place
returns-clause-place c = place_none c.args.name.now c.args.names.now (λ j l. c.loop-place.invariant j (omega arith))
