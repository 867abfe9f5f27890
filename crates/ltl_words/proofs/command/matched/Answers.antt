use Rattle.std.proofs.Common.{subst, ◌≡◌}
use Rattle.clap.specs.declared.error.kind.ErrorKind.TheVariants as kind
use Rattle.ltl_words.specs.Tools.{tool_of}
use Rattle.ltl_words.proofs.WordLaws.{fault_free, refused_means_none, rows_matched}
use Rattle.ltl_words.proofs.command.matched.Goals as goal

pub returns-in-Ok : goal.returns-in-Ok
returns-in-Ok c = record {
  passes = fault_free (tool_of c.args.tool) _ _ c.in_ok-command.ensures c.in-Ok.ensures.kinds;
  rows = rows_matched (tool_of c.args.tool) _ _ _ c.in_ok-command.ensures c.in-Ok.ensures.matches;
}

pub returns : goal.returns
returns c = refused_means_none (tool_of c.args.tool) _ _ _ c.in_ok-command.ensures c.in-Err.ensures.kinds
    (subst (λ k. k ≡ kind.OutOfMemory → ⊥) c.kind.ensures c.in_default.not-OutOfMemory)
