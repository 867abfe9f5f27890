-- What a table says of its rows.
use Rattle.std.proofs.Common.{◌≡◌, ℕ, ◌+◌, ◌<◌, ◌≤◌, Bool, true, false, cond, ◌||◌, List, [], ◌∷◌, length, map, refl, sym, ◌∙◌, ap, subst, arith, Some}
use Rattle.std.specs.Prelude.{slice_get}
use Rattle.ltl_spec.specs.Collections.Lists.{places_where, places_from}
use Rattle.ltl_spec.specs.Collections.Sets.{Has}
use Rattle.ltl_spec.specs.NormalForms.Normal.{Normal, Top, Bottom, Leaf, Next, And, Or, Until, Release, same}
use Rattle.ltl_spec.specs.NormalForms.NormalForm as normal
use Rattle.ltl_spec.proofs.Collections.ListLaws.{places_cases}
use Rattle.ltl_spec.proofs.Collections.MemberLaws.{map_length}
use Rattle.ltl_spec.proofs.Collections.ListLaws.{slice_get_has}
use Rattle.ltl_spec.proofs.NormalForms.SharedNodes.{trees_length}
use Rattle.ltl_spec.specs.Tools.Limits.{stated_limits}
use Rattle.ltl_formula.specs.SharedNodesView.{node_of}
use Rattle.ltl_formula.specs.TableView.{TableView, IsTable, core_of}

-- there is one row for each row of the normal form
pub rows_count : (t : TableView) → IsTable t → length (normal.rows (core_of t)) ≡ length t.rows
rows_count t w = ap length (sym w.table.rows) ∙ trees_length (map node_of t.rows) ∙ map_length node_of t.rows

-- what passes a test stands at a place
place_within : {K : Type 0} (p : K → Bool) (xs : List K) (d : K) (k : ℕ) → Has (places_where p xs) k → k < length xs
place_within p xs d k h = let c = places_cases p 0 xs d k h in let l = c.1 in omega arith

found_within : (t : TableView) (p : Normal → Bool) (ks : List ℕ) (i k : ℕ) → IsTable t → ks ≡ places_where p (normal.rows (core_of t)) → slice_get ks i ≡ Some k → k < length t.rows
found_within t p ks i k w e f =
    let c = rows_count t w in
    let h = place_within p (normal.rows (core_of t)) Bottom k (subst (λ js. Has js k) e (slice_get_has ks i k f)) in
    omega arith

-- until rows and elementary rows are rows
pub until_below : (t : TableView) (i k : ℕ) → IsTable t → slice_get t.untils i ≡ Some k → k < length t.rows
until_below t i k w e = found_within t normal.is_until t.untils i k w w.table.untils e

pub elementary_below : (t : TableView) (i k : ℕ) → IsTable t → slice_get t.elementary i ≡ Some k → k < length t.rows
elementary_below t i k w e = found_within t (λ a. normal.is_elementary a || same a (core_of t)) t.elementary i k w w.table.elementary e

-- a test that asks for more passes no more
fewer_places : {K : Type 0} (p q : K → Bool) → ((x : K) → p x ≡ true → q x ≡ true) → (n : ℕ) (xs : List K) → length (places_from p n xs) ≤ length (places_from q n xs)
fewer_places p q f n [] = omega arith
fewer_places p q f n (x ∷ xs) = at (fewer_places p q f (n + 1) xs) (p x) (q x) refl refl
  where
    at : length (places_from p (n + 1) xs) ≤ length (places_from q (n + 1) xs)
        → (a b : Bool) → p x ≡ a → q x ≡ b → length (cond a (n ∷ places_from p (n + 1) xs) (places_from p (n + 1) xs)) ≤ length (cond b (n ∷ places_from q (n + 1) xs) (places_from q (n + 1) xs))
    at r true true d e = omega arith
    at r true false d e = let c : true ≡ false = sym (f x d) ∙ e in cc
    at r false true d e = omega arith
    at r false false d e = r

-- until rows are elementary
pub until_elementary : (F a : Normal) → normal.is_until a ≡ true → (normal.is_elementary a || same a F) ≡ true
until_elementary F (Until a b) e = refl
until_elementary F Top e = cc
until_elementary F Bottom e = cc
until_elementary F (Leaf l) e = cc
until_elementary F (Next a) e = cc
until_elementary F (And a b) e = cc
until_elementary F (Or a b) e = cc
until_elementary F (Release a b) e = cc

-- so there are no more of them
pub untils_few : (t : TableView) → IsTable t → length t.untils ≤ stated_limits.elementary_rows
untils_few t w =
    let l = fewer_places normal.is_until (λ a. normal.is_elementary a || same a (core_of t)) (until_elementary (core_of t)) 0 (normal.rows (core_of t)) in
    let m : length t.untils ≤ length t.elementary = subst (λ ks. length ks ≤ length t.elementary) (sym w.table.untils) (subst (λ js. length (places_where normal.is_until (normal.rows (core_of t))) ≤ length js) (sym w.table.elementary) l) in
    let f = w.few_elementary in
    omega arith
