-- Names are text.
use Rattle.std.proofs.Common.{◌≡◌, ap, ℕ, zero, suc, ◌<◌, true, ◌||◌, ◌&&◌, List, [], ◌∷◌, arith, slice_index, nat_le, ◌==◌}
use Rattle.std.proofs.lemmas.Bool.Decides.{nat_tests}
use Rattle.std.specs.List.{list_all}
use Rattle.std.specs.Str.{IsAscii, IsUtf8}
use Rattle.std.proofs.lemmas.Str.{IsUtf8-from_ascii}
use Rattle.ltl_spec.specs.Semantics.Word.{Name}
use Rattle.ltl_spec.specs.Formulas.Tokens.{is_lower, is_name_byte}
use Rattle.ltl_spec.specs.Formulas.Names.{is_proposition}
use Rattle.ltl_spec.proofs.Collections.CaseLaws.{left_true, right_true}

name_byte : (c : ℕ) → is_name_byte c ≡ true → c < 128
name_byte c e = grind (arith, nat_tests, e)

all_small : (cs : List ℕ) → list_all is_name_byte cs ≡ true → (j : ℕ) → slice_index cs j < 128
all_small [] a j = omega arith
all_small (c ∷ cs) a zero = name_byte c (left_true (is_name_byte c) (list_all is_name_byte cs) a)
all_small (c ∷ cs) a (suc j) = all_small cs (right_true (is_name_byte c) (list_all is_name_byte cs) a) j

name_ascii : (n : Name) → is_proposition n ≡ true → IsAscii n
name_ascii [] e k = cc
name_ascii (b ∷ bs) e zero =
    let l = left_true (is_lower b) (list_all is_name_byte bs) (left_true (is_lower b && list_all is_name_byte bs) _ e) in
    name_byte b (ap (λ c. c || (nat_le 48 b && nat_le b 57) || b == 95) l)
name_ascii (b ∷ bs) e (suc k) = all_small bs (right_true (is_lower b) (list_all is_name_byte bs) (left_true (is_lower b && list_all is_name_byte bs) _ e)) k

pub name_utf8 : (n : Name) → is_proposition n ≡ true → IsUtf8 n
name_utf8 n e = IsUtf8-from_ascii n (name_ascii n e)
