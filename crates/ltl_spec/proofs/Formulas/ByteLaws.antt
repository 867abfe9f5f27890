-- A class of bytes that has those of names, operators and brackets has all bytes of a formula's text.
use Rattle.std.proofs.Common.{◌≡◌, ℕ, zero, suc, Bool, true, false, not, ◌&&◌, ◌||◌, ◌==◌, List, [], ◌∷◌, ◌++◌, refl, ap}
use Rattle.std.specs.Prelude.{codes, nat_le, slice_index_or}
use Rattle.std.specs.List.{list_all}
use Rattle.ltl_spec.specs.Semantics.Word.{Name}
use Rattle.ltl_spec.specs.Formulas.Formula.{Formula, Constant, Proposition, Unary, Binary, UnaryOperator, BinaryOperator}
use Rattle.ltl_spec.specs.Formulas.Canonical.{formula_text, unary_text, binary_text}
use Rattle.ltl_spec.specs.Formulas.Tokens.{is_lower, is_name_byte}
use Rattle.ltl_spec.specs.Formulas.Names.{is_proposition, is_constant}
use Rattle.ltl_spec.proofs.Collections.CaseLaws.{left_true, right_true}
use Rattle.ltl_spec.proofs.Collections.MemberLaws.{all_append, all_weaker}

-- a proposition is written with bytes of names
proposition_word : (n : Name) → is_proposition n ≡ true → list_all is_name_byte n ≡ true
proposition_word [] e = refl
proposition_word (b ∷ bs) e = go (is_lower b) (list_all is_name_byte bs) (not (is_constant (b ∷ bs))) e
  where
    go : (r s t : Bool) → (r && s && t) ≡ true → ((r || nat_le 48 b && nat_le b 57 || b == 95) && s) ≡ true
    go true true t e = refl
    go true false t e = cc
    go false s t e = cc

module _ (p : ℕ → Bool) (of_name : (b : ℕ) → is_name_byte b ≡ true → p b ≡ true) where
  pub proposition_bytes : (n : Name) → is_proposition n ≡ true → list_all p n ≡ true
  proposition_bytes n e = all_weaker is_name_byte p of_name n (proposition_word n e)

  name_at_bytes : (names : List Name) → list_all is_proposition names ≡ true → (i : ℕ) → list_all p (slice_index_or names i []) ≡ true
  name_at_bytes [] e i = refl
  name_at_bytes (n ∷ names) e zero = proposition_bytes n (left_true (is_proposition n) _ e)
  name_at_bytes (n ∷ names) e (suc i) = name_at_bytes names (right_true (is_proposition n) _ e) i

  module _ (unary : (op : UnaryOperator) → list_all p (unary_text op) ≡ true) (binary : (op : BinaryOperator) → list_all p (binary_text op) ≡ true) (opens : p 40 ≡ true) (closes : p 41 ≡ true) where
    pub formula_bytes : (names : List Name) → list_all is_proposition names ≡ true → (f : Formula) → list_all p (formula_text names f) ≡ true
    formula_bytes names e (Constant true) = all_weaker is_name_byte p of_name (codes "true") refl
    formula_bytes names e (Constant false) = all_weaker is_name_byte p of_name (codes "false") refl
    formula_bytes names e (Proposition i) = name_at_bytes names e i
    formula_bytes names e (Unary op a) = all_append p (unary_text op) (formula_text names a) (unary op) (formula_bytes names e a)
    formula_bytes names e (Binary op a b) =
        all_append p (codes "(" ++ formula_text names a ++ binary_text op ++ formula_text names b) (codes ")")
        (all_append p (codes "(" ++ formula_text names a ++ binary_text op) (formula_text names b)
        (all_append p (codes "(" ++ formula_text names a) (binary_text op) (all_append p (codes "(") (formula_text names a) (ap (λ c. c && true) opens) (formula_bytes names e a)) (binary op)) (formula_bytes names e b))
        (ap (λ c. c && true) closes)
