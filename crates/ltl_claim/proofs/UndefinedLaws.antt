-- Where the items of a text stand, and the first word behind a `goto` that is no label.
use Rattle.std.proofs.Common.{ℕ, zero, suc, ◌+◌, ◌-◌, ◌≤◌, List, [], ◌∷◌, ◌++◌, map, length, arith}
use Rattle.ltl_spec.specs.Claims.ClaimTokens.{ClaimToken, first_found}
use Rattle.ltl_claim.specs.ClaimItems.{ClaimItem, claim_items, claim_items_from, item_at}

-- ---- the places of items

-- they stand at or before this place
abbrev pub AreInside : ℕ → List ClaimItem → Type 0
AreInside n [] = Unit {0}
AreInside n (i ∷ is) = (i.at ≤ n) × AreInside n is

inside_more : (n at b : ℕ) (bs : List ℕ) (ts : List ClaimToken) (is : List ClaimItem) → at ≤ n → AreInside n is → AreInside n (map (item_at at b bs) ts ++ is)
inside_more n at b bs [] is l a = a
inside_more n at b bs (t ∷ ts) is l a = (l, inside_more n at b bs ts is l a)

inside_from : (n skip at : ℕ) (text : List ℕ) → at + length text ≤ n → AreInside n (claim_items_from skip at text)
inside_from n skip at [] l = tt
inside_from n (suc skip) at (b ∷ bs) l = inside_from n skip (at + 1) bs (omega (arith, l))
inside_from n zero at (b ∷ bs) l =
    inside_more n at b bs (first_found b bs).0 (claim_items_from ((first_found b bs).1 - 1) (at + 1) bs) (omega (arith, l)) (inside_from n ((first_found b bs).1 - 1) (at + 1) bs (omega (arith, l)))

pub items_inside : (text : List ℕ) → AreInside (length text) (claim_items text)
items_inside text = inside_from (length text) 0 0 text (omega arith)
