-- Copies coded as pairs, and their hash.
use Rattle.std.specs.Prelude.{◌≡◌, ℕ, ◌+◌, ◌*◌, ◌%◌, ◌^◌, List, IsTrue, refl}
use Rattle.std.proofs.Common.{ap}
use Rattle.std.specs.Coded.{Coded, code_by, coded×, coded_ℕ}
use Rattle.std.specs.Hash as fed
use Rattle.ltl_spec.specs.Construction.Levels.{LevelState, same_level_state}
use Rattle.ltl_spec.proofs.Construction.LevelRuns.{same_level_state_Decides}

abbrev pub level_state_code : Coded LevelState
level_state_code = code_by (ℕ × ℕ) (coded× coded_ℕ coded_ℕ) (λ p. (p.state, p.level)) (λ p. record { state = p.0; level = p.1 }) (λ _. refl)

-- what `hash` feeds to a hasher
abbrev pub hash_of_level_state : LevelState → List (List ℕ)
hash_of_level_state p = fed.usize ((p.state * 256 % 2 ^ 64 + p.level) % 2 ^ 64)

pub hash_of_same : (p q : LevelState) → IsTrue (same_level_state p q) → hash_of_level_state p ≡ hash_of_level_state q
hash_of_same p q e = ap hash_of_level_state ((same_level_state_Decides p q).0 e)
