use Rattle.std.proofs.Common.{◌<◌, length}
use Rattle.ltl_passes.proofs.classes.is_shorter.Given as goal

abbrev pub invariant-links : goal.invariant-links
invariant-links l = record { first : l.from_first < length l.links; other : l.from_other < length l.links }
