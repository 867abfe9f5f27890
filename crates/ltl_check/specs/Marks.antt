-- Sets of edges, by their numbers.
use Rattle.std.specs.Prelude.{◌≡◌, ℕ, ◌<◌, Bool, true, List}
use Rattle.std.specs.Ordering.{nat_cmp}
use Rattle.ltl_spec.specs.Collections.Sets.{has}

-- whether the marks hold set j
abbrev pub in_set : List ℕ → ℕ → Bool
in_set marks j = has nat_cmp j marks

-- the sets in the marks have numbers below n
abbrev pub MarksBelow : List ℕ → ℕ → Type 0
MarksBelow marks n = (j : ℕ) → in_set marks j ≡ true → j < n
