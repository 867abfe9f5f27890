-- Elements that are found at their places, and maps one after the other.
use Rattle.std.proofs.Common.{◌≡◌, ℕ, zero, suc, ◌<◌, inl, inr, List, [], ◌∷◌, ◌++◌, length, map, take, refl, ap, arith, Some}
use Rattle.std.specs.Prelude.{slice_index_or, slice_get}
use Rattle.ltl_spec.specs.Collections.Sets.{Has}

-- an element that is found stands at its place, and a beginning with it has one more
pub index_there : {K : Type 0} (xs : List K) (i : ℕ) (x d : K) → slice_get xs i ≡ Some x → (i < length xs) × (slice_index_or xs i d ≡ x)
index_there [] i x d e = cc
index_there (y ∷ ys) zero x d e = (omega arith, cc)
index_there (y ∷ ys) (suc i) x d e = let w = index_there ys i x d e in (omega (arith, w.0), w.1)

pub take_got : {K : Type 0} (xs : List K) (n : ℕ) (x : K) → slice_get xs n ≡ Some x → take (suc n) xs ≡ take n xs ++ x ∷ []
take_got [] n x e = cc
take_got (y ∷ ys) zero x e = let p : y ≡ x = cc in λ i. p i ∷ []
take_got (y ∷ ys) (suc n) x e = ap (λ l. y ∷ l) (take_got ys n x e)

-- a map of a map, and maps that agree on the elements
pub map_same : {X Y Z : Type 0} (f : X → Y) (g : Y → Z) (xs : List X) → map g (map f xs) ≡ map (λ x. g (f x)) xs
map_same f g [] = refl
map_same f g (x ∷ xs) = ap (λ ys. g (f x) ∷ ys) (map_same f g xs)

pub map_equal : {X Y : Type 0} (f g : X → Y) (xs : List X) → ((x : X) → Has xs x → f x ≡ g x) → map f xs ≡ map g xs
map_equal f g [] e = refl
map_equal f g (x ∷ xs) e =
    let first = e x (inl refl) in
    let rest = map_equal f g xs (λ y h. e y (inr h)) in
    λ i. first i ∷ rest i
