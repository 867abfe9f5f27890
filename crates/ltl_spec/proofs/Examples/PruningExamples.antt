-- Worked examples of pairs that may be listed in place of others.
use Rattle.std.proofs.Common.{◌≡◌, ℕ, Bool, true, false, [], ◌∷◌, length, map, refl}
use Rattle.ltl_spec.specs.Transitions.Cubes.{Literal, Cube}
use Rattle.ltl_spec.specs.NormalForms.Normal.{Normal, Top, Bottom, Leaf, And, Or, Until, Release}
use Rattle.ltl_spec.specs.Transitions.Pairs.{RowSet, Pair, empty_pair}
use Rattle.ltl_spec.specs.Transitions.RowTransitions.{table_of, place, is_marked}
use Rattle.ltl_spec.proofs.Transitions.TransitionLaws.{joined}
use Rattle.ltl_spec.specs.Transitions.Pruning.{is_within, fulfilling_pairs}
use Rattle.ltl_spec.proofs.Transitions.Fulfilment.{passes, until_test}

-- whether a pair passes the test of an until row
abbrev is_passed : Normal → Pair → Bool
is_passed f p = passes p (until_test (place (table_of f)) f)

-- the literal of a proposition
abbrev is : ℕ → Literal
is n = record { proposition = n; positive = true }

-- a pair
abbrev pair : Cube → RowSet → Pair
pair ls ks = record { cube = ls; targets = ks }

-- `<>` and `[]`
abbrev eventually : Normal → Normal
eventually a = Until Top a

abbrev always : Normal → Normal
always a = Release Bottom a

-- `<>(p || q)`, at place 2

-- the row
abbrev either : Normal
either = eventually (Or (Leaf (is 0)) (Leaf (is 1)))

either_place : place (table_of either) either ≡ 2
either_place = refl

-- it has two fulfilling pairs
either_fulfilling : fulfilling_pairs (table_of either) either ≡ pair (is 0 ∷ []) [] ∷ pair (is 1 ∷ []) [] ∷ []
either_fulfilling = refl

-- to ask for less isn't enough: without p the row is put off
put_off : is_within (pair [] (2 ∷ [])) (pair (is 0 ∷ []) (2 ∷ [])) ≡ true
put_off = refl

with_p : is_marked (table_of either) (pair (is 0 ∷ []) (2 ∷ [])) either ≡ true
with_p = refl

without_p : is_marked (table_of either) (pair [] (2 ∷ [])) either ≡ false
without_p = refl

-- it doesn't pass, so it lacks p and q; a pair that has p passes
not_passed : is_passed either (pair [] (2 ∷ [])) ≡ false
not_passed = refl

passed : is_passed either (pair (is 0 ∷ []) (2 ∷ [])) ≡ true
passed = refl

-- `[]<>p && []<>q`, the set of all its until and release rows

-- the formula
abbrev again : Normal
again = And (always (eventually (Leaf (is 0)))) (always (eventually (Leaf (is 1))))

-- the places of its until and release rows
again_places : map (place (table_of again)) (eventually (Leaf (is 0)) ∷ always (eventually (Leaf (is 0))) ∷ eventually (Leaf (is 1)) ∷ always (eventually (Leaf (is 1))) ∷ []) ≡ 1 ∷ 2 ∷ 4 ∷ 5 ∷ []
again_places = refl

-- there are 16 joined pairs
all_pairs : length (joined (table_of again) (empty_pair ∷ []) (1 ∷ 2 ∷ 4 ∷ 5 ∷ [])) ≡ 16
all_pairs = refl
