-- Lists of names, one name after the other.
use Rattle.std.proofs.Common.{◌≡◌, ℕ, ◌+◌, ◌<◌, ◌≤◌, Bool, true, false, cond, List, [], ◌∷◌, ◌++◌, map, length, inl, inr, refl, sym, ◌∙◌, ap, subst, arith, Bor}
use Rattle.std.specs.Prelude.{fold, slice_index_or, IsTrue, All}
use Rattle.std.specs.List.{list_any, list_all}
use Rattle.std.specs.Bool.{Decides}
use Rattle.std.proofs.lemmas.List.{get_or-map}
use Rattle.std.proofs.lemmas.List.Elements.{All-from_get_or}
use Rattle.std.proofs.lemmas.List.Sums.{fold-append, position_or_len_is, passes_at_first}
use Rattle.ltl_spec.specs.Collections.Sets.{Has}
use Rattle.ltl_spec.specs.Collections.Lists.{with_new, place_of}
use Rattle.ltl_spec.specs.Semantics.Word.{Name}
use Rattle.ltl_spec.specs.Formulas.Tokens.{same_name}
use Rattle.ltl_spec.specs.Formulas.Names.{is_proposition, unified}
use Rattle.ltl_check.specs.ProductView.{number_in}
use Rattle.ltl_spec.proofs.Checking.UnifiedLaws.{second_below}
use Rattle.ltl_spec.proofs.Collections.ListLaws.{any_Decides, Has-at, place_below, first_occurrences_cases}
use Rattle.ltl_spec.proofs.Collections.SetLaws.{append_cases}
use Rattle.ltl_spec.proofs.Collections.MemberLaws.{all_Decides, map_length}
use Rattle.ltl_spec.proofs.Formulas.NameLaws.{same_name_Decides}
use Rattle.ltl_spec.proofs.Collections.CaseLaws.{last_or_below}

-- the first place of a name
pub place_is : (x : Name) (xs : List Name) (i : ℕ) → i ≤ length xs → ((k : ℕ) → k < i → same_name x (slice_index_or xs k []) ≡ false) → (i < length xs → same_name x (slice_index_or xs i []) ≡ true) → i ≡ place_of same_name x xs
place_is x xs i l before here = sym (position_or_len_is (same_name x) xs i [] l before here)

-- a name that is there
pub put_there : (xs : List Name) (x : Name) → place_of same_name x xs < length xs → xs ≡ with_new same_name xs x
put_there xs x l =
    let e = passes_at_first (same_name x) xs [] l in
    let there : Has xs x = subst (Has xs) (sym ((same_name_Decides x (slice_index_or xs (place_of same_name x xs) [])).0 e)) (Has-at xs (place_of same_name x xs) [] l) in
    sym (ap (λ b. cond b xs (xs ++ x ∷ [])) ((any_Decides same_name same_name_Decides x xs).1 there))

-- and one that isn't
pub put_new : (xs : List Name) (x : Name) → length xs ≤ place_of same_name x xs → xs ++ x ∷ [] ≡ with_new same_name xs x
put_new xs x l =
    elim (list_any (same_name x) xs) as (λ b. Decides b (Has xs x) → xs ++ x ∷ [] ≡ cond b xs (xs ++ x ∷ [])) [
      | true ↦ λ d. absurd (let m = place_below same_name same_name_Decides x xs (d.0 refl) in omega arith)
      | false ↦ λ d. refl
    ] (any_Decides same_name same_name_Decides x xs)

pub unified_is : (own other first both : List Name) → first ≡ fold (with_new same_name) [] own → both ≡ fold (with_new same_name) first other → both ≡ unified own other
unified_is own other first both e f = f ∙ ap (λ a. fold (with_new same_name) a other) e ∙ sym (fold-append (with_new same_name) [] own other)

-- names as the code has them

abbrev bytes : Bor Name → Name
bytes n = n.now

got : (ns : List (Bor Name)) (k : ℕ) (o : Bor Name) → k < length ns → slice_index_or (map bytes ns) k [] ≡ bytes (slice_index_or ns k o)
got ns k o l = get_or-map bytes ns k o [] l

pub place_found : (x : Name) (ns : List (Bor Name)) (k : ℕ) (o : Bor Name) (b : Bool) → k < length ns → ((j : ℕ) → j < k → same_name x (slice_index_or (map bytes ns) j []) ≡ false) → b ≡ same_name x (bytes (slice_index_or ns k o)) → b ≡ true
    → k ≡ place_of same_name x (map bytes ns)
place_found x ns k o b l before e t =
    let n = map_length bytes ns in
    place_is x (map bytes ns) k (omega (arith, n, l)) before (λ _. ap (same_name x) (got ns k o l) ∙ sym e ∙ t)

pub place_next : (x : Name) (ns : List (Bor Name)) (k : ℕ) (o : Bor Name) (b : Bool) → k < length ns → ((j : ℕ) → j < k → same_name x (slice_index_or (map bytes ns) j []) ≡ false) → b ≡ same_name x (bytes (slice_index_or ns k o)) → b ≡ false
    → (j : ℕ) → j < k + 1 → same_name x (slice_index_or (map bytes ns) j []) ≡ false
place_next x ns k o b l before e f j m = elim (last_or_below j k (omega (arith, m))) [
  | inl h ↦ before j h
  | inr h ↦ ap (λ n. same_name x (slice_index_or (map bytes ns) n [])) h ∙ ap (same_name x) (got ns k o l) ∙ sym e ∙ f
]

pub place_none : (x : Name) (ns : List (Bor Name)) → ((j : ℕ) → j < length ns → same_name x (slice_index_or (map bytes ns) j []) ≡ false) → length ns ≡ place_of same_name x (map bytes ns)
place_none x ns before =
    let n = map_length bytes ns in
    sym n ∙ place_is x (map bytes ns) (length (map bytes ns)) (omega arith) (λ j l. before j (omega (arith, n, l))) (λ l. absurd (omega (arith, l)))

pub put_known : (ns : List (Bor Name)) (x : Name) (place : ℕ) → place ≡ place_of same_name x (map bytes ns) → place < length ns → map bytes ns ≡ with_new same_name (map bytes ns) x
put_known ns x place e l = let n = map_length bytes ns in put_there (map bytes ns) x (omega (arith, n, e, l))

pub put_pushed : (ns ms : List (Bor Name)) (o : Bor Name) (place : ℕ) → place ≡ place_of same_name o.now (map bytes ns) → length ns ≤ place → ms ≡ ns ++ o ∷ [] → map bytes ms ≡ with_new same_name (map bytes ns) o.now
put_pushed ns ms o place e l p = let n = map_length bytes ns in ap (map bytes) p ∙ behind ns ∙ put_new (map bytes ns) o.now (omega (arith, n, e, l))
  where
    behind : (ns : List (Bor Name)) → map bytes (ns ++ o ∷ []) ≡ map bytes ns ++ o.now ∷ []
    behind [] = refl
    behind (n ∷ ns) = ap (λ ks. n.now ∷ ks) (behind ns)

-- the numbers of the other names are below each limit that all names together keep
pub numbers_within : (own other : List Name) (all : List (Bor Name)) (numbers : List ℕ) (most : ℕ) → map bytes all ≡ unified own other → length all ≤ most → length numbers ≡ length other
    → ((p : ℕ) → p < length other → number_in numbers p ≡ place_of same_name (slice_index_or other p []) (map bytes all)) → All (λ n. n < most) numbers
numbers_within own other all numbers most e few count are = All-from_get_or (λ n. n < most) numbers 0 (λ p l.
    let m : p < length other = omega (arith, count, l) in
    let same = are p m ∙ ap (place_of same_name (slice_index_or other p [])) e in
    let below = second_below own other p m in
    let n = map_length bytes all in
    let k = ap length e in
    omega (arith, few, n, k, below, same))

-- propositions together are propositions
pub unified_propositions : (xs ys : List Name) → IsTrue (list_all is_proposition xs) → IsTrue (list_all is_proposition ys) → IsTrue (list_all is_proposition (unified xs ys))
unified_propositions xs ys h k = (all_Decides is_proposition (unified xs ys)).1 (λ n m. elim (append_cases xs ys n (first_occurrences_cases same_name same_name_Decides (xs ++ ys) n m)) [
  | inl o ↦ (all_Decides is_proposition xs).0 h n o
  | inr o ↦ (all_Decides is_proposition ys).0 k n o
])
