use Rattle.std.proofs.Common.{subst, ◌≡◌}
use Rattle.clap.specs.declared.error.kind.ErrorKind.TheVariants as kind
use Rattle.ltl_reduction.proofs.PlanLaws.{fault_free, refused_means_none, rows_matched}
use Rattle.ltl_reduction.proofs.command.matched.Goals as goal

pub returns-in-Ok : goal.returns-in-Ok
returns-in-Ok c = record {
  passes = fault_free _ _ c.in_ok-command.ensures c.in-Ok.ensures.kinds;
  rows = rows_matched _ _ c.in_ok-command.ensures _ c.in-Ok.ensures.matches;
}

pub returns : goal.returns
returns c = refused_means_none _ _ c.in_ok-command.ensures _ c.in-Err.ensures.kinds (subst (λ k. k ≡ kind.OutOfMemory → ⊥) c.kind.ensures c.in_default.not-OutOfMemory)
