use Rattle.std.proofs.Common.{◌≡◌, ◌+◌, ◌-◌, ◌≤◌, length}
use Rattle.std.specs.Io.KnownBytes.{Consumes}
use Rattle.ltl_spec.specs.Tools.Stage.{Open}
use Rattle.ltl_claim.specs.ClaimAnswer.{most_bytes}
use Rattle.ltl_claim.proofs.text.text_of.Given as goal

abbrev pub invariant-pieces : goal.invariant-pieces
invariant-pieces g l = record {
  few : length l.text.items ≤ most_bytes + 1;
  taken : Consumes (g.R.ByteSource.state l.fn.source).rest (g.R.ByteSource.state l.source).rest l.text.items;
  same : (g.R.ByteSource.state l.source).through ≡ (g.R.ByteSource.state l.fn.source).through;
  stays : (g.R.ByteSource.state l.fn.source).stage ≡ Open → (g.R.ByteSource.state l.source).stage ≡ Open;
}

abbrev pub decreases-pieces : goal.decreases-pieces
decreases-pieces g l = most_bytes + 1 - length l.text.items
