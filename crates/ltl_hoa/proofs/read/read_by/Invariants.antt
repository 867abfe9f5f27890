use Rattle.std.proofs.Common.{◌≡◌, ◌-◌, ◌≤◌}
use Rattle.ltl_spec.specs.Tools.Limits.{stated_limits}
use Rattle.ltl_spec.specs.Tools.Stage.{Open}
use Rattle.ltl_hoa.proofs.StreamLaws.{HasRead}
use Rattle.ltl_hoa.proofs.read.read_by.Given as goal

abbrev pub invariant-pieces : goal.invariant-pieces
invariant-pieces g l = record {
  in_range : l.given ≤ stated_limits.hoa_bytes;
  read : HasRead (g.R.ByteSource.state l.fn.source).rest (g.R.ByteSource.state l.source).rest l.stream_reader l.given;
  same : (g.R.ByteSource.state l.source).through ≡ (g.R.ByteSource.state l.fn.source).through;
  stays : (g.R.ByteSource.state l.fn.source).stage ≡ Open → (g.R.ByteSource.state l.source).stage ≡ Open;
}

abbrev pub decreases-pieces : goal.decreases-pieces
decreases-pieces g l = stated_limits.hoa_bytes - l.given
