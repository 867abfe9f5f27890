use Rattle.std.proofs.Common.{◌≡◌, ◌+◌, ◌≤◌, take}
use Rattle.std.specs.Prelude.{fold}
use Rattle.ltl_claim.specs.ClaimAnswer.{moved}
use Rattle.ltl_claim.proofs.place.place_of.Given as goal

abbrev pub invariant-bytes : goal.invariant-bytes
invariant-bytes l = record {
  place : (l.line, l.column) ≡ fold moved (1, 1) (take l.byte-index l.before);
  low : l.line ≤ l.byte-index + 1;
  left : l.column ≤ l.byte-index + 1;
}
