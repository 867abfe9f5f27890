use Rattle.std.proofs.Common.{◌≡◌, length, map}
use Rattle.ltl_pictures.specs.Timeline.{greatest, name_at}
use Rattle.ltl_pictures.proofs.propositions.Propositions.width.Given as goal

abbrev pub invariant-loop-p : goal.invariant-loop-p
invariant-loop-p g l = l.width ≡ greatest (λ p. length (name_at (map (λ n. n.now) l.self.names.items) p)) l.p
