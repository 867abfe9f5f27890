-- The literals of a cube, one after another.
use Rattle.std.proofs.Common.{◌≡◌, ◌∙◌, length, ap, refl, ℕ, zero, suc, ◌+◌, ◌<◌, ◌≤◌, bit_or, arith, Bool, true, false, cond, ◌||◌, ◌&&◌, List, ◌∷◌, map}
use Rattle.std.specs.Simd.Lanes.{zip2}
use Rattle.std.specs.Ordering.{nat_cmp}
use Rattle.std.proofs.lemmas.List.{length-map}
use Rattle.std.specs.List.{filter, range_with_len}
use Rattle.ltl_spec.specs.Collections.Sets.{has}
use Rattle.ltl_spec.specs.Transitions.Cubes.{Literal}
use Rattle.ltl_sets.specs.Literals.{literal_of, cube_of, signed_by}
use Rattle.ltl_sets.specs.Words.{IsWords, bit_in, AreDisjoint, places, members, literals_from, signed_places, literal_in, literals}
use Rattle.ltl_sets.specs.WordLaws.{bit_in-or}
use Rattle.ltl_sets.specs.PlaceLaws.{literal, has_members}
use Rattle.ltl_sets.proofs.RowSetLaws.{never, members_few}
use Rattle.ltl_sets.specs.declared.row_set.TheConstants.RowSet.{LIMIT}

step : (b c t : Bool) (a : ℕ) (ls : List Literal) → (b && c) ≡ false → t ≡ b
    → cond (b || c) (literal a t ∷ ls) ls ≡ cond b (literal a true ∷ cond c (literal a false ∷ ls) ls) (cond c (literal a false ∷ ls) ls)
step true true t a ls e f = never e
step true false t a ls e f = ap (λ s. literal a s ∷ ls) f
step false true t a ls e f = ap (λ s. literal a s ∷ ls) f
step false false t a ls e f = refl

chosen : (b : Bool) (is : List ℕ) (a : ℕ) (js : List ℕ) → cube_of (map (signed_by is) (cond b (a ∷ js) js)) ≡ cond b (literal a (has nat_cmp a is) ∷ cube_of (map (signed_by is) js)) (cube_of (map (signed_by is) js))
chosen true is a js = refl
chosen false is a js = refl

members_are : (ws : List ℕ) → members ws ≡ filter (bit_in ws) (range_with_len 0 LIMIT)
unfolding members places
members_are ws = refl

module _ (ps ns : List ℕ) (p1 : IsWords ps) (n1 : IsWords ns) (disjoint : AreDisjoint ps ns) where
  from : (a n : ℕ) → a + n ≤ LIMIT → cube_of (map (signed_by (members ps)) (filter (bit_in (zip2 bit_or ps ns)) (range_with_len a n))) ≡ filter (literal_in ps ns) (literals_from a n)
  from a zero h = refl
  from a (suc n) h =
      let below : a < LIMIT = omega arith in
      chosen (bit_in (zip2 bit_or ps ns) a) (members ps) a (filter (bit_in (zip2 bit_or ps ns)) (range_with_len (a + 1) n))
      ∙ ap (λ ls. cond (bit_in (zip2 bit_or ps ns) a) (literal a (has nat_cmp a (members ps)) ∷ ls) ls) (from (a + 1) n (omega arith))
      ∙ ap (λ b. cond b (literal a (has nat_cmp a (members ps)) ∷ filter (literal_in ps ns) (literals_from (a + 1) n)) (filter (literal_in ps ns) (literals_from (a + 1) n)))
      (bit_in-or ps ns p1 n1 a below)
      ∙ step (bit_in ps a) (bit_in ns a) (has nat_cmp a (members ps)) a (filter (literal_in ps ns) (literals_from (a + 1) n)) (disjoint a below) (has_members ps a below)

  pub signed_members : cube_of (map (signed_by (members ps)) (members (zip2 bit_or ps ns))) ≡ literals ps ns
  unfolding literals signed_places
  signed_members = ap (λ js. cube_of (map (signed_by (members ps)) js)) (members_are (zip2 bit_or ps ns)) ∙ from 0 LIMIT (omega arith)

pub signed_few : (is js : List ℕ) → length js ≤ LIMIT → length (map (signed_by is) js) ≤ LIMIT
signed_few is js h = omega (arith, length-map js (signed_by is))

pub literals_few : (ps ns : List ℕ) → IsWords ps → IsWords ns → AreDisjoint ps ns → length (literals ps ns) ≤ LIMIT
literals_few ps ns p1 n1 disjoint =
    let js = map (signed_by (members ps)) (members (zip2 bit_or ps ns)) in
    omega (arith, ap length (signed_members ps ns p1 n1 disjoint), length-map js literal_of, signed_few (members ps) (members (zip2 bit_or ps ns)) (members_few (zip2 bit_or ps ns)))
