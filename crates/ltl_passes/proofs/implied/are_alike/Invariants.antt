use Rattle.std.proofs.Common.{◌≡◌, length}
use Rattle.ltl_passes.proofs.RunLaws.{AreNoted}
use Rattle.ltl_passes.proofs.implied.are_alike.Given as goal

abbrev pub invariant-loop-place : goal.invariant-loop-place
invariant-loop-place l = record {
  wide : length l.noted ≡ length l.initial.noted;
  noted : AreNoted l.labels l.edges l.noted l.place;
}
