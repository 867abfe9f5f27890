-- Sets of acceptance sets as the bits of an integer.
use Rattle.std.specs.Prelude.{ℕ, List, [], ◌∷◌, slice_index}
use Rattle.ltl_sets.specs.Words.{members, words_with}

-- the words whose first one is this, and that have no other ones
abbrev pub words_of_bits : ℕ → List ℕ
words_of_bits n = n ∷ 0 ∷ 0 ∷ 0 ∷ []

-- the numbers of the ones
abbrev pub marks_of : ℕ → List ℕ
marks_of n = members (words_of_bits n)

-- the number below 2 ^ 64 that has the numbers of a list as its ones
abbrev pub bits_with : List ℕ → ℕ
bits_with is = slice_index (words_with is) 0
