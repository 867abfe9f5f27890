-- Places of rows among the elementary rows, and the trees that stand at them.
use Rattle.std.proofs.Common.{◌≡◌, ◌≢◌, ℕ, zero, suc, ◌+◌, ◌<◌, ◌≤◌, Bool, true, false, cond, not, ◌||◌, inl, inr, List, [], ◌∷◌, length, map, refl, sym, ◌∙◌, ap, subst, arith, Some, None}
use Rattle.std.specs.Prelude.{slice_get, slice_index_or, ◌==◌, filter, position, nat_lt}
use Rattle.std.specs.Option.{unwrap_or}
use Rattle.std.specs.Bool.{Decides}
use Rattle.std.specs.List.{position_or_len}
use Rattle.std.proofs.lemmas.Bool.Decides.{nat_tests}
use Rattle.std.proofs.lemmas.List.Sums.{prefix_len-le-length}
use Rattle.ltl_spec.specs.Collections.Sets.{Has}
use Rattle.ltl_spec.specs.Collections.Lists.{places_where, places_from, place_of, HasNoRepeats}
use Rattle.ltl_spec.specs.NormalForms.Normal.{Normal, Bottom, same}
use Rattle.ltl_spec.specs.NormalForms.NormalForm as normal
use Rattle.ltl_spec.proofs.Collections.SetLaws.{filter_cases}
use Rattle.ltl_spec.proofs.Collections.ListLaws.{Has-at, places_cases, HasNoRepeats-first_occurrences}
use Rattle.ltl_spec.proofs.NormalForms.NormalLaws.{same_Decides}
use Rattle.ltl_formula.specs.TableView.{TableView, IsTable, row_tree, core_of}
use Rattle.ltl_alt.specs.RowLists.{row_place}
use Rattle.ltl_alt.proofs.RowLaws.{rows_count}

-- ---- first places

pub told_equal : (x y : ℕ) → x ≡ y → (x == y) ≡ true
told_equal x y e = grind (arith, nat_tests)

told_other : (x y : ℕ) → x ≢ y → (x == y) ≡ false
told_other x y n = grind (arith, nat_tests)

decided_false : {P : Type 0} (b : Bool) → Decides b P → (P → ⊥) → b ≡ false
decided_false true d n = absurd (n (d.0 refl))
decided_false false d n = refl

decided_true : {P : Type 0} (b : Bool) → Decides b P → P → b ≡ true
decided_true b d p = d.1 p

pub unwrap_position : {K : Type 0} (p : K → Bool) (xs : List K) → unwrap_or (position p xs) (length xs) ≡ position_or_len p xs
unwrap_position p xs = at (nat_lt (position_or_len p xs) (length xs)) refl
  where
    no_less : (i n : ℕ) → i ≤ n → nat_lt i n ≡ false → n ≡ i
    no_less i n l e = grind (arith, nat_tests)

    at : (b : Bool) → nat_lt (position_or_len p xs) (length xs) ≡ b → unwrap_or (cond b (Some (position_or_len p xs)) None) (length xs) ≡ position_or_len p xs
    at true e = refl
    at false e = no_less (position_or_len p xs) (length xs) (prefix_len-le-length (λ x. not (p x)) xs) e

-- where none passes the place is the length
absent : {K : Type 0} (p : K → Bool) (xs : List K) → ((z : K) → Has xs z → p z ≡ false) → position_or_len p xs ≡ length xs
absent p [] f = refl
absent p (x ∷ xs) f =
    let rest = absent p xs (λ z h. f z (inr h)) in
    ap (λ b. cond (not b) (1 + position_or_len p xs) 0) (f x (inl refl)) ∙ (let e : 1 + position_or_len p xs ≡ length (x ∷ xs) = omega (arith, rest) in e)

places_length : {K : Type 0} (p : K → Bool) (n : ℕ) (xs : List K) → length (places_from p n xs) ≡ length (filter p xs)
places_length p n [] = refl
places_length {K} p n (x ∷ xs) = at (p x) (places_length p (n + 1) xs)
  where
    at : (b : Bool) → length (places_from p (n + 1) xs) ≡ length (filter p xs) → length (cond b (n ∷ places_from p (n + 1) xs) (places_from p (n + 1) xs)) ≡ length (cond b (x ∷ filter p xs) (filter p xs))
    at true e = omega arith
    at false e = e

place_number : (p : Normal → Bool) (xs : List Normal) (n m k : ℕ) → HasNoRepeats xs → k < length xs → m ≡ n + k
    → position_or_len (λ j. j == m) (places_from p n xs) ≡ place_of same (slice_index_or xs k Bottom) (filter p xs)
place_number p [] n m k r l e = absurd (omega arith)
place_number p (x ∷ xs) n m zero r l e = at (p x)
  where
    here : n ≡ m
    here = omega arith

    above : (z : ℕ) → Has (places_from p (n + 1) xs) z → (z == m) ≡ false
    above z h = let c = (places_cases p (n + 1) xs Bottom z h).0 in told_other z m (λ d. omega arith)

    other : (z : Normal) → Has (filter p xs) z → same x z ≡ false
    other z h = decided_false (same x z) (same_Decides x z) (λ d. r.0 (subst (Has xs) (sym d) (filter_cases p xs z h).0))

    at : (b : Bool) → position_or_len (λ j. j == m) (cond b (n ∷ places_from p (n + 1) xs) (places_from p (n + 1) xs)) ≡ place_of same x (cond b (x ∷ filter p xs) (filter p xs))
    at true =
        ap (λ c. cond (not c) (1 + position_or_len (λ j. j == m) (places_from p (n + 1) xs)) 0) (told_equal n m here)
        ∙ sym (ap (λ c. cond (not c) (1 + place_of same x (filter p xs)) 0) (decided_true (same x x) (same_Decides x x) refl))
    at false = absent (λ j. j == m) (places_from p (n + 1) xs) above ∙ places_length p (n + 1) xs ∙ sym (absent (same x) (filter p xs) other)
place_number p (x ∷ xs) n m (suc k) r l e = at (p x) (place_number p xs (n + 1) m k r.1 (omega arith) (omega arith))
  where
    y : Normal
    y = slice_index_or xs k Bottom

    independent : (n == m) ≡ false
    independent = told_other n m (λ d. omega arith)

    other : same y x ≡ false
    other = let i : k < length xs = omega arith in decided_false (same y x) (same_Decides y x) (λ d. r.0 (subst (Has xs) d (Has-at xs k Bottom i)))

    at : (b : Bool) → position_or_len (λ j. j == m) (places_from p (n + 1) xs) ≡ place_of same y (filter p xs)
        → position_or_len (λ j. j == m) (cond b (n ∷ places_from p (n + 1) xs) (places_from p (n + 1) xs)) ≡ place_of same y (cond b (x ∷ filter p xs) (filter p xs))
    at true h =
        ap (λ c. cond (not c) (1 + position_or_len (λ j. j == m) (places_from p (n + 1) xs)) 0) independent
        ∙ ap (λ i. 1 + i) h
        ∙ sym (ap (λ c. cond (not c) (1 + place_of same y (filter p xs)) 0) other)
    at false h = h

-- ---- places of a table

no_row_twice : (F : Normal) → HasNoRepeats (normal.rows F)
no_row_twice F = HasNoRepeats-first_occurrences same same_Decides (normal.postorder F)

pub place_right : (t : TableView) (k : ℕ) → IsTable t → k < length t.rows → position_or_len (λ j. j == k) t.elementary ≡ row_place t (row_tree t k)
place_right t k w l =
    let c = rows_count t w in
    let F = core_of t in
    let p : Normal → Bool = λ a. normal.is_elementary a || same a F in
    let i : k < length (normal.rows F) = omega arith in
    ap (position_or_len (λ j. j == k)) w.table.elementary
    ∙ place_number p (normal.rows F) 0 k k (no_row_twice F) i (omega arith)
    ∙ ap (λ xs. place_of same (slice_index_or xs k Bottom) (filter p (normal.rows F))) (sym w.table.rows)

-- what passes, by its place
filter_by_places : (p : Normal → Bool) (f : ℕ → Normal) (xs : List Normal) (n : ℕ) → ((j : ℕ) → j < length xs → f (n + j) ≡ slice_index_or xs j Bottom) → map f (places_from p n xs) ≡ filter p xs
filter_by_places p f [] n h = refl
filter_by_places p f (x ∷ xs) n h = at (p x) (filter_by_places p f xs (n + 1) (λ j l. ap f (next j) ∙ h (suc j) (omega arith)))
  where
    next : (j : ℕ) → n + 1 + j ≡ n + suc j
    next j = omega arith

    first : f n ≡ x
    first = let e : n ≡ n + 0 = omega arith in ap f e ∙ h 0 (omega arith)

    at : (b : Bool) → map f (places_from p (n + 1) xs) ≡ filter p xs → map f (cond b (n ∷ places_from p (n + 1) xs) (places_from p (n + 1) xs)) ≡ cond b (x ∷ filter p xs) (filter p xs)
    at true e = ap (λ y. y ∷ map f (places_from p (n + 1) xs)) first ∙ ap (λ ys. x ∷ ys) e
    at false e = e

by_places : (t : TableView) (p : Normal → Bool) → IsTable t → map (row_tree t) (places_where p (normal.rows (core_of t))) ≡ filter p (normal.rows (core_of t))
by_places t p w = filter_by_places p (row_tree t) (normal.rows (core_of t)) 0 (λ j l. (let e : 0 + j ≡ j = omega arith in ap (row_tree t) e) ∙ ap (λ xs. slice_index_or xs j Bottom) w.table.rows)

-- the elementary rows and the until rows of the formula are those of the table
pub elementary_is : (t : TableView) → IsTable t → normal.elementary_rows (core_of t) ≡ map (row_tree t) t.elementary
elementary_is t w = sym (ap (map (row_tree t)) w.table.elementary ∙ by_places t (λ a. normal.is_elementary a || same a (core_of t)) w)

pub untils_is : (t : TableView) → IsTable t → normal.until_rows (core_of t) ≡ map (row_tree t) t.untils
untils_is t w = sym (ap (map (row_tree t)) w.table.untils ∙ by_places t normal.is_until w)

-- what stands at a place of a list of trees
mapped_some : {K : Type 0} (f : K → Normal) (ks : List K) (i : ℕ) (k : K) → slice_get ks i ≡ Some k → slice_index_or (map f ks) i Bottom ≡ f k
mapped_some f [] i k e = cc
mapped_some f (x ∷ ks) zero k e = let d : x ≡ k = cc in ap f d
mapped_some f (x ∷ ks) (suc i) k e = mapped_some f ks i k e

mapped_none : {K : Type 0} (f : K → Normal) (ks : List K) (i : ℕ) → slice_get ks i ≡ None → slice_index_or (map f ks) i Bottom ≡ Bottom
mapped_none f [] i e = refl
mapped_none f (x ∷ ks) zero e = cc
mapped_none f (x ∷ ks) (suc i) e = mapped_none f ks i e

pub elementary_tree : (t : TableView) (i k : ℕ) → IsTable t → slice_get t.elementary i ≡ Some k → slice_index_or (normal.elementary_rows (core_of t)) i Bottom ≡ row_tree t k
elementary_tree t i k w e = ap (λ xs. slice_index_or xs i Bottom) (elementary_is t w) ∙ mapped_some (row_tree t) t.elementary i k e

pub no_elementary_tree : (t : TableView) (i : ℕ) → IsTable t → slice_get t.elementary i ≡ None → slice_index_or (normal.elementary_rows (core_of t)) i Bottom ≡ Bottom
no_elementary_tree t i w e = ap (λ xs. slice_index_or xs i Bottom) (elementary_is t w) ∙ mapped_none (row_tree t) t.elementary i e
