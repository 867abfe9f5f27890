use Rattle.std.proofs.Common.{◌≡◌, ◌++◌, ◌≤◌, length, reverse}
use Rattle.std.specs.Prelude.{flat_map, drop}
use Rattle.ltl_claim_hoa.specs.LabelSigns.{sign_text}
use Rattle.ltl_claim_hoa.proofs.sign.put_back.Given as goal

abbrev pub invariant-signs : goal.invariant-signs
invariant-signs g l = record {
  inside : l.at ≤ length l.signs;
  text : l.text.items ≡ l.fn.text.items ++ flat_map sign_text (reverse (drop l.at l.signs));
}

abbrev pub decreases-signs : goal.decreases-signs
decreases-signs g l = l.at
