use Rattle.std.proofs.Common.{ap, arith, length, map, sym}
use Rattle.ltl_pictures.specs.Timeline.{name_at}
use Rattle.ltl_pictures.proofs.NameLaws.{lent_there}
use Rattle.ltl_pictures.proofs.TimelineLaws.{greatest_more}
use Rattle.ltl_pictures.proofs.propositions.Propositions.width.Goals as goal

pub loop-p-preserved : goal.loop-p-preserved
loop-p-preserved g c =
    greatest_more (λ p. length (name_at (map (λ n. n.now) c.args.self.now.names.items) p)) c.loop-p.p c.loop-p.width c.max-width.result _ c.loop-p.invariant
    (ap length (sym (lent_there c.args.self.now.names.items c.loop-p.p c.index.result.now (omega arith) c.index.ensures))) c.max-width.ensures
