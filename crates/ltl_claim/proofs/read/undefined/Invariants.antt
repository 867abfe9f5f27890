use Rattle.std.proofs.Common.{◌≡◌, length}
use Rattle.std.specs.Prelude.{false}
use Rattle.ltl_claim.specs.ClaimAnswer.{undefined}
use Rattle.ltl_claim.specs.ClaimItems.{claim_items}
use Rattle.ltl_claim.proofs.UndefinedLaws.{AreInside}
use Rattle.ltl_claim.proofs.read.undefined.Given as goal

abbrev pub invariant-tokens : goal.invariant-tokens
invariant-tokens g l = record {
  inside : AreInside (length l.text) l.lexer;
  same : undefined l.program.labels l.behind_goto l.lexer ≡ undefined l.program.labels false (claim_items l.text);
}

abbrev pub decreases-tokens : goal.decreases-tokens
decreases-tokens g l = length l.lexer
