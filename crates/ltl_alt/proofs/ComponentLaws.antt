-- Components of conjuncts, one after another.
use Rattle.std.proofs.Common.{ℕ, List, [], ◌∷◌}
use Rattle.std.specs.Prelude.{fold}
use Rattle.ltl_spec.specs.Transitions.Pairs.{Pair, join, empty_pair}
use Rattle.ltl_spec.proofs.Transitions.ConjunctJoins.{join_of, joined_from_nothing, sound_join_of}
use Rattle.ltl_spec.proofs.Transitions.SameJoins.{AreSound, sound_alike, alike_sym}

-- ---- joins one after another

-- the joins with what is left
abbrev pub joined_on : (ℕ → List Pair) → List Pair → List ℕ → List Pair
joined_on f ps is = fold (λ xs k. join xs (f k)) ps is

-- they are sound where the conjuncts are
pub joined_sound : (conjunct : ℕ → List Pair) → ((k : ℕ) → AreSound (conjunct k)) → (g : List ℕ) → AreSound (joined_on conjunct (empty_pair ∷ []) g)
joined_sound conjunct sound g =
    sound_alike (join_of conjunct g) (joined_on conjunct (empty_pair ∷ []) g) (alike_sym (joined_on conjunct (empty_pair ∷ []) g) (join_of conjunct g) (joined_from_nothing conjunct sound g)) (sound_join_of conjunct sound g)
