-- Names by number in a set of keys.
use Rattle.std.proofs.Common.{◌≡◌, ◌∙◌, ap, refl, ℕ, ◌+◌, Bool, true, false, cond, not, ◌||◌, List, [], ◌∷◌, ◌++◌, map}
use Rattle.std.specs.List.{list_any, position_or_len}
use Rattle.std.proofs.lemmas.List.{map-append}
use Rattle.std.proofs.lemmas.Slice.Eq.{bytes_eq-Decides}
use Rattle.indexmap.specs.IndexSet.{insert_key}
use Rattle.ltl_spec.specs.Semantics.Word.{Name}
use Rattle.ltl_spec.specs.Collections.Lists.{with_new, place_of}
use Rattle.ltl_spec.specs.Formulas.Tokens.{same_name}

module _ {K : Type 0} (name : K → Name) (eq : K → K → Bool) (is : (x y : K) → eq x y ≡ same_name (name x) (name y)) where
  same_any : (k : K) (ks : List K) → list_any (eq k) ks ≡ list_any (same_name (name k)) (map name ks)
  same_any k [] = refl
  same_any k (x ∷ xs) = both (is k x) (same_any k xs)
    where
      both : {a b c d : Bool} → a ≡ b → c ≡ d → (a || c) ≡ (b || d)
      both e f = λ i. e i || f i

  -- the names after a key is inserted
  pub keys_inserted : (ks : List K) (k : K) → map name (insert_key eq ks k) ≡ with_new same_name (map name ks) (name k)
  keys_inserted ks k =
      ap (λ b. map name (cond b ks (ks ++ k ∷ []))) (same_any k ks)
      ∙ (elim (list_any (same_name (name k)) (map name ks)) as (λ b. map name (cond b ks (ks ++ k ∷ [])) ≡ cond b (map name ks) (map name ks ++ name k ∷ [])) [
        | true ↦ refl
        | false ↦ map-append name ks (k ∷ [])
      ])

  -- the place of a key
  pub same_place : (k : K) (ks : List K) → position_or_len (eq k) ks ≡ place_of same_name (name k) (map name ks)
  same_place k [] = refl
  same_place k (x ∷ xs) = both (is k x) (same_place k xs)
    where
      both : {a b : Bool} {c d : ℕ} → a ≡ b → c ≡ d → cond (not a) (1 + c) 0 ≡ cond (not b) (1 + d) 0
      both e f = λ i. cond (not (e i)) (1 + f i) 0

-- a name that is found stays where it is
place_found : (n m : Name) (names : List Name) → list_any (same_name n) names ≡ false → place_of same_name n (names ++ n ∷ []) ≡ place_of same_name n names
place_found n m [] e = ap (λ b. cond (not b) 1 0) ((bytes_eq-Decides n n).1 refl)
place_found n m (x ∷ xs) e =
    elim (same_name n x) as (λ b. (b || list_any (same_name n) xs) ≡ false → cond (not b) (1 + place_of same_name n (xs ++ n ∷ [])) 0 ≡ cond (not b) (1 + place_of same_name n xs) 0) [
      | true ↦ λ d. refl
      | false ↦ λ d. ap (λ p. 1 + p) (place_found n m xs d)
    ] e

-- a new name's place is the next one
pub place_new : (names : List Name) (n : Name) → place_of same_name n (with_new same_name names n) ≡ place_of same_name n names
place_new names n =
    elim (list_any (same_name n) names) as (λ b. list_any (same_name n) names ≡ b → place_of same_name n (cond b names (names ++ n ∷ [])) ≡ place_of same_name n names) [
      | true ↦ λ e. refl
      | false ↦ λ e. place_found n n names e
    ] refl
