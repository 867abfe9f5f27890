-- A short list that was sorted in place.
use Rattle.std.proofs.Common.{◌≡◌, List, [], ◌∷◌, ◌++◌, length, take, drop, refl, sym, ◌∙◌, ap}
use Rattle.std.specs.List.{refill}

take_front : {K : Type 0} (xs ys : List K) → take (length xs) (xs ++ ys) ≡ xs
take_front [] ys = refl
take_front (x ∷ xs) ys = ap (λ zs. x ∷ zs) (take_front xs ys)

-- what was shown of a list is put in its place, as long as before
pub refilled : {K : Type 0} (old shown new : List K) → shown ≡ old → length new ≡ length shown → refill (length old) old new ≡ new
refilled old shown new s l = ap (λ n. take n (new ++ drop (length new) old)) (ap length (sym s) ∙ sym l) ∙ take_front new (drop (length new) old)
