use Rattle.std.proofs.Common.{length, ◌-◌, ◌≤◌, take}
use Rattle.ltl_streams.specs.Streams.{Takes}
use Rattle.ltl_streams.proofs.writing.write_whole.Given as goal

abbrev pub invariant-pieces : goal.invariant-pieces
invariant-pieces g l = record {
  in_range : l.at ≤ length l.bytes;
  written : Takes (g.S.ByteSink.state l.fn.sink) (g.S.ByteSink.state l.sink) (take l.at l.bytes);
}

abbrev pub decreases-pieces : goal.decreases-pieces
decreases-pieces g l = length l.bytes - l.at
