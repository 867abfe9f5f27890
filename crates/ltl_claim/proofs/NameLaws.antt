-- The numbers of names, and that names are text.
use Rattle.std.proofs.Common.{◌≡◌, ◌∙◌, ap, sym, subst, refl, append-nil, ◌++◌, ℕ, zero, suc, ◌+◌, ◌<◌, ◌≤◌, Bool, true, false, cond, not, ◌||◌, ◌&&◌, ◌==◌, List, [], ◌∷◌, length, map, arith, slice_index, nat_le, nat_lt, Some, None}
use Rattle.std.specs.List.{list_all, position, position_or_len}
use Rattle.std.specs.Option.{unwrap_or}
use Rattle.std.specs.Str.{IsAscii, IsUtf8}
use Rattle.std.proofs.lemmas.Bool.Decides.{nat_tests}
use Rattle.std.proofs.lemmas.List.Sums.{prefix_len-le-length}
use Rattle.std.proofs.lemmas.Str.{IsUtf8-from_ascii}
use Rattle.ltl_spec.specs.Semantics.Word.{Name}
use Rattle.ltl_spec.specs.Collections.Lists.{place_of}
use Rattle.ltl_spec.specs.Formulas.Tokens.{is_lower, is_name_byte, same_name}
use Rattle.ltl_spec.specs.Formulas.Names.{is_proposition}
use Rattle.ltl_spec.proofs.Collections.CaseLaws.{left_true, right_true}

-- the place of an element, where none is one behind the last
found_or_len : {K : Type 0} (test : K → Bool) (ks : List K) → unwrap_or (position test ks) (length ks) ≡ position_or_len test ks
found_or_len test ks =
    elim (nat_lt (position_or_len test ks) (length ks)) as (λ b. nat_lt (position_or_len test ks) (length ks) ≡ b → unwrap_or (cond b (Some (position_or_len test ks)) None) (length ks) ≡ position_or_len test ks) [
      | true ↦ λ e. refl
      | false ↦ λ e. past (position_or_len test ks) (length ks) (prefix_len-le-length (λ k. not (test k)) ks) e
    ] refl
  where
    past : (i n : ℕ) → i ≤ n → nat_lt i n ≡ false → n ≡ i
    past i n l e = grind (arith, nat_tests, l, e)

same_place : {K : Type 0} (name : K → Name) (test : K → Bool) (n : Name) → ((x : K) → test x ≡ same_name n (name x)) → (ks : List K)
    → position_or_len test ks ≡ place_of same_name n (map name ks)
same_place name test n is [] = refl
same_place name test n is (x ∷ xs) = both (is x) (same_place name test n is xs)
  where
    both : {a b : Bool} {c d : ℕ} → a ≡ b → c ≡ d → cond (not a) (1 + c) 0 ≡ cond (not b) (1 + d) 0
    both e f = λ i. cond (not (e i)) (1 + f i) 0

-- the place of a name in a set of names
pub place_found : {K : Type 0} (name : K → Name) (test : K → Bool) (n : Name) → ((x : K) → test x ≡ same_name n (name x)) → (ks : List K)
    → unwrap_or (position test ks) (length ks) ≡ place_of same_name n (map name ks)
place_found name test n is ks = found_or_len test ks ∙ same_place name test n is ks

name_byte : (c : ℕ) → is_name_byte c ≡ true → c < 128
name_byte c e = grind (arith, nat_tests, e)

all_small : (cs : List ℕ) → list_all is_name_byte cs ≡ true → (j : ℕ) → slice_index cs j < 128
all_small [] a j = omega arith
all_small (c ∷ cs) a zero = name_byte c (left_true (is_name_byte c) (list_all is_name_byte cs) a)
all_small (c ∷ cs) a (suc j) = all_small cs (right_true (is_name_byte c) (list_all is_name_byte cs) a) j

name_ascii : (n : Name) → is_proposition n ≡ true → IsAscii n
name_ascii [] e k = cc
name_ascii (b ∷ bs) e zero =
    let l = left_true (is_lower b) (list_all is_name_byte bs) (left_true (is_lower b && list_all is_name_byte bs) _ e) in
    name_byte b (ap (λ c. c || (nat_le 48 b && nat_le b 57) || b == 95) l)
name_ascii (b ∷ bs) e (suc k) = all_small bs (right_true (is_lower b) (list_all is_name_byte bs) (left_true (is_lower b && list_all is_name_byte bs) _ e)) k

-- a proposition is text
pub name_utf8 : (n : Name) → is_proposition n ≡ true → IsUtf8 n
name_utf8 n e = IsUtf8-from_ascii n (name_ascii n e)

-- ---- the names of a set

-- a key among others
pub name_among : {K : Type 0} (name : K → Name) (ks xs it ys : List K) (x : K) → list_all is_proposition (map name ks) ≡ true → xs ++ it ≡ ks → it ≡ x ∷ ys → is_proposition (name x) ≡ true
name_among {K = K} name ks xs it ys x a e f = behind xs (subst (λ l. list_all is_proposition (map name l) ≡ true) (sym e ∙ ap (λ l. xs ++ l) f) a)
  where
    behind : (zs : List K) → list_all is_proposition (map name (zs ++ x ∷ ys)) ≡ true → is_proposition (name x) ≡ true
    behind [] b = left_true (is_proposition (name x)) (list_all is_proposition (map name ys)) b
    behind (z ∷ zs) b = behind zs (right_true (is_proposition (name z)) (list_all is_proposition (map name (zs ++ x ∷ ys))) b)

-- all keys were gone over
pub all_over : {K L : Type 0} (show : L → K) (name : K → Name) (ks it : List K) (ls : List L) → map show ls ++ it ≡ ks → it ≡ [] → map (λ l. name (show l)) ls ≡ map name ks
all_over {L = L} show name ks it ls e f = twice ls ∙ ap (map name) (sym (append-nil (map show ls)) ∙ ap (λ l. map show ls ++ l) (sym f) ∙ e)
  where
    twice : (ms : List L) → map (λ l. name (show l)) ms ≡ map name (map show ms)
    twice [] = refl
    twice (m ∷ ms) = ap (λ l. name (show m) ∷ l) (twice ms)
