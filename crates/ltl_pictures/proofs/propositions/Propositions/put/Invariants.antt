use Rattle.std.proofs.Common.{length, map}
use Rattle.ltl_pictures.specs.Timeline.{name_at, proposition_line, proposition_lines}
use Rattle.ltl_pictures.proofs.LineLaws.{LacksFrom}
use Rattle.ltl_pictures.proofs.propositions.Propositions.put.Given as goal

abbrev pub invariant-loop-p : goal.invariant-loop-p
invariant-loop-p g l =
    LacksFrom (λ p. proposition_line l.width l.word (name_at (map (λ n. n.now) l.self.names.items) p)) (length (map (λ n. n.now) l.self.names.items)) l.p
    g.S.ByteSink.state l.fn.out l.out (proposition_lines l.width l.word (map (λ n. n.now) l.self.names.items))
