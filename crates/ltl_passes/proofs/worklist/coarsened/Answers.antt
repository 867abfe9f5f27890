use Rattle.std.proofs.Common.{subst, List, ℕ}
use Rattle.ltl_passes.specs.Worklist.{IsCoarser}
use Rattle.ltl_passes.proofs.worklist.coarsened.Goals as goal

pub returns-then-is_coarser-clause-coarser : goal.returns-then-is_coarser-clause-coarser
returns-then-is_coarser-clause-coarser g c =
    let h = c.is_coarser.ensures c.if-is_coarser.true in
    subst (λ (ns : List ℕ). IsCoarser ns c.in_ok-merged.merged.items) c.as_slice-2.ensures.value (subst (λ (ms : List ℕ). IsCoarser c.as_slice-2.result.now ms) c.as_slice-3.ensures.value h)
