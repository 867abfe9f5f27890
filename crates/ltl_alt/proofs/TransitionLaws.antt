-- The marks of pairs, step by step.
use Rattle.std.proofs.Common.{◌≡◌, ℕ, zero, suc, ◌+◌, ◌<◌, Bool, true, false, cond, inl, inr, List, [], ◌∷◌, ◌++◌, length, map, take, refl, sym, ◌∙◌, ap, arith, Some}
use Rattle.std.proofs.lemmas.List.{take_more, length-take-le}
use Rattle.std.specs.Prelude.{slice_get, slice_index_or}
use Rattle.std.specs.Ordering.{nat_cmp}
use Rattle.std.specs.declared.cmp.Ordering.TheVariants.{Greater}
use Rattle.std.proofs.lemmas.Bool.Decides.{nat_tests}
use Rattle.std.proofs.lemmas.List.{append-nil}
use Rattle.ltl_spec.proofs.Collections.ListLaws.{places_cases}
use Rattle.ltl_spec.specs.Collections.Sets.{Has, put, by_order}
use Rattle.ltl_spec.specs.Collections.Lists.{places_where, places_from}
use Rattle.ltl_spec.specs.NormalForms.Normal.{Normal, Bottom}
use Rattle.ltl_formula.specs.TableView.{TableView, IsTable, row_tree}
use Rattle.ltl_alt.specs.TransitionView.{table_at}
use Rattle.ltl_alt.proofs.PlaceLaws.{untils_is}

-- ---- marks

-- the tree of an until row by its number
mapped_at : (f : ℕ → Normal) (ks : List ℕ) (i k : ℕ) → slice_get ks i ≡ Some k → slice_index_or (map f ks) i Bottom ≡ f k
mapped_at f [] i k e = cc
mapped_at f (x ∷ ks) zero k e = let d : x ≡ k = cc in ap f d
mapped_at f (x ∷ ks) (suc i) k e = mapped_at f ks i k e

pub until_tree : (t : TableView) (i k : ℕ) → IsTable t → slice_get t.untils i ≡ Some k → slice_index_or (table_at t).untils i Bottom ≡ row_tree t k
until_tree t i k w e = ap (λ xs. slice_index_or xs i Bottom) (untils_is t w) ∙ mapped_at (row_tree t) t.untils i k e

pub untils_count : (t : TableView) → IsTable t → length (table_at t).untils ≡ length t.untils
untils_count t w = ap length (untils_is t w) ∙ mapped_length (row_tree t) t.untils
  where
    mapped_length : (f : ℕ → Normal) (ks : List ℕ) → length (map f ks) ≡ length ks
    mapped_length f [] = refl
    mapped_length f (k ∷ ks) = let e = mapped_length f ks in omega arith

-- within the list the default plays no part
pub index_same : {K : Type 0} (xs : List K) (k : ℕ) (x y : K) → k < length xs → slice_index_or xs k x ≡ slice_index_or xs k y
index_same [] k x y l = absurd (omega arith)
index_same (z ∷ xs) zero x y l = refl
index_same (z ∷ xs) (suc k) x y l = index_same xs k x y (omega arith)

-- one number more
pub places_push : {K : Type 0} (p : K → Bool) (n : ℕ) (xs : List K) (x : K) → places_from p n (xs ++ x ∷ []) ≡ places_from p n xs ++ cond (p x) ((n + length xs) ∷ []) []
places_push p n [] x = at (p x)
  where
    same : n ≡ n + 0
    same = omega arith

    at : (b : Bool) → cond b (n ∷ []) [] ≡ cond b ((n + 0) ∷ []) []
    at true = ap (λ m. m ∷ []) same
    at false = refl
places_push {K} p n (y ∷ xs) x = at (p y) (places_push p (n + 1) xs x ∙ ap (λ m. places_from p (n + 1) xs ++ cond (p x) (m ∷ []) []) same)
  where
    same : n + 1 + length xs ≡ n + length (y ∷ xs)
    same = omega arith

    at : (b : Bool) → places_from p (n + 1) (xs ++ x ∷ []) ≡ places_from p (n + 1) xs ++ cond (p x) ((n + length (y ∷ xs)) ∷ []) []
        → cond b (n ∷ places_from p (n + 1) (xs ++ x ∷ [])) (places_from p (n + 1) (xs ++ x ∷ [])) ≡ cond b (n ∷ places_from p (n + 1) xs) (places_from p (n + 1) xs) ++ cond (p x) ((n + length (y ∷ xs)) ∷ []) []
    at true e = ap (λ l. n ∷ l) e
    at false e = e

-- a number above all others goes last
put_last : (n : ℕ) (xs : List ℕ) → ((z : ℕ) → Has xs z → z < n) → put nat_cmp n xs ≡ xs ++ n ∷ []
put_last n [] f = refl
put_last n (y ∷ ys) f =
    let l : y < n = f y (inl refl) in
    ap (λ o. by_order o (n ∷ y ∷ ys) (y ∷ ys) (y ∷ put nat_cmp n ys)) (above n y l) ∙ ap (λ zs. y ∷ zs) (put_last n ys (λ z h. f z (inr h)))
  where
    above : (i j : ℕ) → j < i → nat_cmp i j ≡ Greater
    above i j l = grind (arith, nat_tests)

-- one element more was looked at
pub marks_step : {K : Type 0} (p : K → Bool) (d : K) (us : List K) (n : ℕ) (b : Bool) (ms : List ℕ) → n < length us → b ≡ p (slice_index_or us n d) → ms ≡ places_where p (take n us)
    → cond b (put nat_cmp n ms) ms ≡ places_where p (take (n + 1) us)
marks_step p d us n b ms l e f =
    let short : length (take n us) ≡ n = length-take-le n us (omega arith) in
    let x = slice_index_or us n d in
    let xs = places_where p (take n us) in
    let last : put nat_cmp n xs ≡ xs ++ n ∷ [] = put_last n xs (λ z h. let c = (places_cases p 0 (take n us) d z h).1 in omega arith) in
    ap (λ m. cond b (put nat_cmp n m) m) f
    ∙ ap (λ m. cond b m xs) last
    ∙ at b xs
    ∙ ap (λ c. xs ++ cond c (n ∷ []) []) e
    ∙ ap (λ m. xs ++ cond (p x) (m ∷ []) []) (let o : n ≡ 0 + length (take n us) = omega arith in o)
    ∙ sym (places_push p 0 (take n us) x)
    ∙ ap (places_where p) (sym (take_more us n d l))
  where
    at : (c : Bool) (ys : List ℕ) → cond c (ys ++ n ∷ []) ys ≡ ys ++ cond c (n ∷ []) []
    at true ys = refl
    at false ys = sym (append-nil ys)

-- all were looked at
pub marks_end : {K : Type 0} (p : K → Bool) (us : List K) (n : ℕ) (ms : List ℕ) → n ≡ length us → ms ≡ places_where p (take n us) → ms ≡ places_where p us
marks_end p us n ms e d = d ∙ ap (λ m. places_where p (take m us)) e ∙ ap (places_where p) (take_length us)
  where
    take_length : {K : Type 0} (xs : List K) → take (length xs) xs ≡ xs
    take_length [] = refl
    take_length (x ∷ xs) = ap (λ ys. x ∷ ys) (take_length xs)
