use Rattle.std.proofs.Common.{vec_len, ◌≡◌, ◌-◌, ◌≤◌}
use Rattle.std.specs.Io.KnownBytes.{Consumes}
use Rattle.ltl_spec.specs.Tools.Stage.{Open}
use Rattle.ltl_cli.proofs.input.read_text.Given as goal

abbrev pub invariant-pieces : goal.invariant-pieces
invariant-pieces g l = record {
  in_range : vec_len l.text ≤ l.most;
  taken : Consumes (g.R.ByteSource.state l.fn.reader).rest (g.R.ByteSource.state l.reader).rest l.text.items;
  still_open : (g.R.ByteSource.state l.reader).stage ≡ Open;
  same : (g.R.ByteSource.state l.reader).through ≡ (g.R.ByteSource.state l.fn.reader).through;
}

abbrev pub decreases-pieces : goal.decreases-pieces
decreases-pieces g l = l.most - vec_len l.text
