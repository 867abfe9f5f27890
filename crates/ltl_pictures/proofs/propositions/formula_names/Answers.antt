use Rattle.std.proofs.Common.{◌∙◌, ◌≤◌, ◌<◌, arith, length}
use Rattle.ltl_pictures.proofs.NameLaws.{taken_all, taken_more}
use Rattle.ltl_pictures.proofs.propositions.formula_names.Goals as goal

pub loop-p-preserved : goal.loop-p-preserved
loop-p-preserved g c =
    let l : c.loop-p.p < length c.args.formula.now.names = omega arith in
    taken_more c.loop-p.names.items _ c.as_bytes.result c.args.formula.now.names c.loop-p.p l (c.as_bytes.ensures.value ∙ c.name.ensures) c.in_ok-push.ensures.items c.loop-p.invariant

pub returns : goal.returns
returns g c =
    let l : length c.args.formula.now.names ≤ c.loop-p.p = omega arith in
    taken_all c.args.formula.now.names _ c.loop-p.p l c.loop-p.invariant
