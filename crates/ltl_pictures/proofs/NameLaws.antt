-- Lists of names that are lent, one name after the other.
use Rattle.std.proofs.Common.{◌≡◌, ◌∙◌, ap, ap₂, sym, refl, subst, ℕ, zero, suc, ◌+◌, ◌<◌, ◌≤◌, arith, inl, inr, Bool, true, false, Bor, List, [], ◌∷◌, ◌++◌, length, map, drop, take}
use Rattle.std.specs.Prelude.{◌||◌, fold, if◌then◌else◌, slice_index_or}
use Rattle.std.specs.List.{list_any}
use Rattle.std.proofs.lemmas.List.{drop_more, get_or-map, map-append, take_more}
use Rattle.ltl_spec.specs.Collections.Lists.{with_new}
use Rattle.ltl_spec.specs.Formulas.Tokens.{same_name}
use Rattle.ltl_spec.specs.Semantics.Word.{Name}
use Rattle.ltl_spec.proofs.Collections.CaseLaws.{last_or_below}
use Rattle.ltl_spec.proofs.Collections.MemberLaws.{map_length}
use Rattle.ltl_syntax.proofs.TreeLemmas.{push_length, push_before, push_at}

abbrev bytes : Bor Name → Name
bytes n = n.now

pub lent_at : (ns : List (Bor Name)) (k : ℕ) (o : Bor Name) → k < length ns → slice_index_or (map bytes ns) k [] ≡ bytes (slice_index_or ns k o)
lent_at ns k o l = get_or-map bytes ns k o [] l

-- a name that stands at a place
pub lent_there : (ns : List (Bor Name)) (k : ℕ) (o : Bor Name) → k < length ns → o ≡ slice_index_or ns k o → slice_index_or (map bytes ns) k [] ≡ o.now
lent_there ns k o l e = lent_at ns k o l ∙ ap bytes (sym e)

lent_more : (ns : List (Bor Name)) (k : ℕ) (o : Bor Name) → k < length ns → drop k (map bytes ns) ≡ bytes (slice_index_or ns k o) ∷ drop (k + 1) (map bytes ns)
lent_more ns k o l =
    let n = map_length bytes ns in
    drop_more (map bytes ns) k [] (omega (arith, n, l)) ∙ ap (λ x. x ∷ drop (k + 1) (map bytes ns)) (lent_at ns k o l)

drop_all : {X : Type 0} (xs : List X) (k : ℕ) → length xs ≤ k → drop k xs ≡ []
drop_all [] zero l = refl
drop_all [] (suc k) l = refl
drop_all (x ∷ xs) zero l = absurd (omega (arith, l))
drop_all (x ∷ xs) (suc k) l = drop_all xs k (omega (arith, l))

lent_end : (ns : List (Bor Name)) (k : ℕ) → length ns ≤ k → drop k (map bytes ns) ≡ []
lent_end ns k l = let n = map_length bytes ns in drop_all (map bytes ns) k (omega (arith, n, l))

-- ---- whether a name is listed
module _ (name : Name) (ns : List (Bor Name)) (k : ℕ) (whole : Bool) (rest : list_any (same_name name) (drop k (map bytes ns)) ≡ whole) where
  at : (o : Bor Name) (b : Bool) → k < length ns → b ≡ same_name name (bytes (slice_index_or ns k o)) → (b || list_any (same_name name) (drop (k + 1) (map bytes ns))) ≡ whole
  at o b l s = ap (λ c. c || list_any (same_name name) (drop (k + 1) (map bytes ns))) s ∙ ap (list_any (same_name name)) (sym (lent_more ns k o l)) ∙ rest

  pub found_here : (o : Bor Name) (b : Bool) → k < length ns → b ≡ same_name name (bytes (slice_index_or ns k o)) → b ≡ true → true ≡ whole
  found_here o b l s t = ap (λ c. c || list_any (same_name name) (drop (k + 1) (map bytes ns))) (sym t) ∙ at o b l s

  pub not_here : (o : Bor Name) (b : Bool) → k < length ns → b ≡ same_name name (bytes (slice_index_or ns k o)) → b ≡ false → list_any (same_name name) (drop (k + 1) (map bytes ns)) ≡ whole
  not_here o b l s t = ap (λ c. c || list_any (same_name name) (drop (k + 1) (map bytes ns))) (sym t) ∙ at o b l s

  pub nowhere : length ns ≤ k → false ≡ whole
  nowhere l = ap (list_any (same_name name)) (sym (lent_end ns k l)) ∙ rest

-- ---- one name more

pub listed : (ns : List (Bor Name)) (name : Name) (b : Bool) → b ≡ list_any (same_name name) (map bytes ns) → b ≡ true → map bytes ns ≡ with_new same_name (map bytes ns) name
listed ns name b e t = sym (ap (λ c. if c then map bytes ns else (map bytes ns ++ name ∷ [])) (sym e ∙ t))

pub pushed : (ns ms : List (Bor Name)) (o : Bor Name) (b : Bool) → b ≡ list_any (same_name o.now) (map bytes ns) → b ≡ false → ms ≡ ns ++ o ∷ [] → map bytes ms ≡ with_new same_name (map bytes ns) o.now
pushed ns ms o b e f p = ap (map bytes) p ∙ map-append bytes ns (o ∷ []) ∙ sym (ap (λ c. if c then map bytes ns else (map bytes ns ++ o.now ∷ [])) (sym e ∙ f))

-- ---- names of a list put to others
module _ (ns : List (Bor Name)) (i : ℕ) (now whole : List Name) (rest : fold (with_new same_name) now (drop i (map bytes ns)) ≡ whole) where
  pub fold_next : (o : Bor Name) (more : List Name) → i < length ns → more ≡ with_new same_name now (bytes (slice_index_or ns i o)) → fold (with_new same_name) more (drop (i + 1) (map bytes ns)) ≡ whole
  fold_next o more l p = ap (λ xs. fold (with_new same_name) xs (drop (i + 1) (map bytes ns))) p ∙ ap (fold (with_new same_name) now) (sym (lent_more ns i o l)) ∙ rest

  pub fold_end : length ns ≤ i → now ≡ whole
  fold_end l = ap (fold (with_new same_name) now) (sym (lent_end ns i l)) ∙ rest

-- ---- the first names of a list

pub taken_more : (ns ms : List (Bor Name)) (o : Bor Name) (xs : List Name) (p : ℕ) → p < length xs → o.now ≡ slice_index_or xs p [] → ms ≡ ns ++ o ∷ [] → map bytes ns ≡ take p xs → map bytes ms ≡ take (p + 1) xs
taken_more ns ms o xs p l e g h = ap (map bytes) g ∙ map-append bytes ns (o ∷ []) ∙ ap₂ (λ a b. a ++ b ∷ []) h e ∙ sym (take_more xs p [] l)

pub taken_all : (xs ys : List Name) (p : ℕ) → length xs ≤ p → ys ≡ take p xs → ys ≡ xs
taken_all xs ys p l e = e ∙ all xs p l
  where
    all : (xs : List Name) (p : ℕ) → length xs ≤ p → take p xs ≡ xs
    all [] zero l = refl
    all [] (suc p) l = refl
    all (x ∷ xs) zero l = absurd (omega (arith, l))
    all (x ∷ xs) (suc p) l = ap (λ zs. x ∷ zs) (all xs p (omega (arith, l)))

-- ---- one thing more

pub each_pushed : {X : Type 0} (P : ℕ → X → Type 0) (xs ys : List X) (x d : X) → ys ≡ xs ++ x ∷ [] → ((k : ℕ) → k < length xs → P k (slice_index_or xs k d)) → P (length xs) x → (k : ℕ) → k < length ys → P k (slice_index_or ys k d)
each_pushed P xs ys x d e old new k l =
    elim (last_or_below k (length xs) (subst (λ n. k < n) (ap length e ∙ push_length xs x) l)) [
      | inl b ↦ subst (λ zs. P k (slice_index_or zs k d)) (sym e) (subst (P k) (sym (push_before xs x k d b)) (old k b))
      | inr q ↦ subst (λ zs. P k (slice_index_or zs k d)) (sym e) (subst (λ n. P n (slice_index_or (xs ++ x ∷ []) n d)) (sym q) (subst (P (length xs)) (sym (push_at xs x d)) new))
    ]

pub count_push : {X : Type 0} (xs : List X) (x : X) (ys : List X) (n : ℕ) → ys ≡ xs ++ x ∷ [] → length xs ≡ n → length ys ≡ n + 1
count_push xs x ys n e l = let m = push_length xs x in let k = ap length e in omega (arith, l, m, k)
