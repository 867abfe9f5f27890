-- What follows from what a call answers, and promises of its answer.
use Rattle.std.proofs.Common.{◌≡◌, refl, ◌<◌, List, [], ◌∷◌, length, arith, None, IsSome}
use Rattle.std.specs.Prelude.{Result, Ok, Err, OnOk}

-- what follows from what a call ensures
pub where_ok : {T E P Q : Type 0} (r : Result T E) → OnOk r P → (P → Q) → OnOk r Q
where_ok (Ok u) p f = f p
where_ok (Err x) p f = tt

-- a list of which a call that takes an element found none
pub none_left : {X : Type 0} (xs : List X) → (0 < length xs → IsSome {T = X} None) → xs ≡ []
none_left [] some = refl
none_left (x ∷ xs) some = absurd (let h0 = some (omega arith) in cc)
