use Rattle.std.proofs.Common.{◌≡◌, ◌-◌, ◌≤◌, length, take, Some}
use Rattle.ltl_spec.proofs.Words.LassoTextLaws.{run, start}
use Rattle.ltl_word.specs.WrittenView.{after, IsInside}
use Rattle.ltl_word.proofs.scan.read_letters.Given as goal

abbrev pub invariant-bytes : goal.invariant-bytes
invariant-bytes g l = record {
  within : l.at ≤ length l.text;
  inside : IsInside l.at l.place;
  run : run (Some start) (take l.at l.text) ≡ Some (after l.text l.at l.place l.written);
}

abbrev pub decreases-bytes : goal.decreases-bytes
decreases-bytes g l = length l.text - l.at
