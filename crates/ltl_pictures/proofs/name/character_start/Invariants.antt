use Rattle.std.proofs.Common.{◌≡◌, ◌≤◌}
use Rattle.ltl_pictures.specs.NameText.{character_start}
use Rattle.ltl_pictures.proofs.name.character_start.Given as goal

abbrev pub invariant-bytes : goal.invariant-bytes
invariant-bytes l = record {
  within : l.start ≤ l.place;
  same : character_start l.bytes l.start ≡ character_start l.bytes l.place;
}

abbrev pub decreases-bytes : goal.decreases-bytes
decreases-bytes l = l.start
