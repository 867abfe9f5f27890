use Rattle.std.proofs.Common.{◌≤◌, length, map, drop}
use Rattle.ltl_spec.specs.Collections.Sets.{set_of}
use Rattle.ltl_spec.specs.Semantics.Word.{name_cmp}
use Rattle.ltl_word.specs.NameView.{ArePlaces}
use Rattle.ltl_word.proofs.name_list.places.Given as goal

abbrev pub invariant-names : goal.invariant-names
invariant-names l = record {
  below : l.i ≤ length l.letter;
  places : ArePlaces (map (λ n. n.now) l.names) (set_of name_cmp (drop l.i (map (λ n. n.now) l.letter))) l.places;
}

abbrev pub decreases-names : goal.decreases-names
decreases-names l = l.i
