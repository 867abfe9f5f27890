use Rattle.std.proofs.Common.{◌≡◌, [], length, map}
use Rattle.std.specs.Prelude.{slice_index_or}
use Rattle.ltl_pictures.specs.Timeline.{greatest}
use Rattle.ltl_pictures.proofs.subformulas.Subformulas.width.Given as goal

abbrev pub invariant-loop-k : goal.invariant-loop-k
invariant-loop-k g l = l.width ≡ greatest (λ k. length (slice_index_or (map (λ t. t.items) l.self.texts.items) k [])) l.k
