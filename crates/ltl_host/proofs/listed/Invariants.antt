use Rattle.std.proofs.Common.{◌≡◌, ◌++◌}
use Rattle.std.specs.Vec.Iter.{into_iter_items, into_iter_len}
use Rattle.ltl_host.proofs.listed.Given as goal

abbrev pub invariant-words : goal.invariant-words
invariant-words g l = l.words.items ++ into_iter_items l.given ≡ into_iter_items l.fn.given

abbrev pub decreases-words : goal.decreases-words
decreases-words g l = into_iter_len l.given
