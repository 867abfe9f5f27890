use Rattle.std.proofs.Common.{◌≡◌, ◌+◌, ◌*◌, arith, subst, w64}
use Rattle.std.specs.Prelude.{slice_index_or}
use Rattle.std.specs.Int.{trailing_zeros}
use Rattle.ltl_sets.specs.Words.{IsLowest}
use Rattle.ltl_sets.proofs.LaneLaws.{IsLowest-words}
use Rattle.ltl_sets.proofs.lanes.lowest_of_first.Goals as goal

pub returns : goal.returns
returns c =
    let low = trailing_zeros w64 (slice_index_or c.args.lanes 0 0) in
    let same : 64 * 0 + low ≡ low = omega arith in
    let fit = c.requires.fit 0 in
    subst (IsLowest c.args.lanes) same (IsLowest-words c.args.lanes 0 (omega arith) fit (omega (arith, c.if-word-eq0.false)) (λ k h. omega (arith, h)))
