use Rattle.std.proofs.Common.{◌≡◌, ◌<◌, ℕ, true}
use Rattle.ltl_pictures.specs.Picture.{edges_at, is_even}
use Rattle.ltl_pictures.proofs.acceptance.are_even.Given as goal

abbrev pub invariant-loop-k : goal.invariant-loop-k
invariant-loop-k g l = (j : ℕ) → j < l.k → is_even (edges_at l.automaton j) ≡ true
