use Rattle.std.proofs.Common.{◌≡◌, length, map}
use Rattle.ltl_pictures.specs.TimelineView.{AreTexts}
use Rattle.ltl_pictures.proofs.subformulas.node_texts.Given as goal

abbrev pub invariant-loop-k : goal.invariant-loop-k
invariant-loop-k g l = record {
  count : length l.texts.items ≡ l.k;
  texts : AreTexts l.formula (map (λ t. t.items) l.texts.items);
}
