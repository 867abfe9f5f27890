-- The tokens of a formula's text. The longest token is taken, blanks are left out.
use Rattle.std.specs.Prelude.{ℕ, zero, suc, ◌+◌, ◌-◌, Bool, true, false, ◌&&◌, ◌||◌, ◌==◌, nat_eq, nat_le, if◌then◌else◌, List, [], ◌∷◌, length, map, take_while, find, Option, Some, None, codes}
use Rattle.std.specs.List.{starts_with}
use Rattle.std.specs.Cmp.Lexicographic.{pointwise}
use Rattle.ltl_spec.specs.Semantics.Word.{Name}
use Rattle.ltl_spec.specs.Formulas.Formula.{UnaryOperator, Not, Next, Always, Eventually, BinaryOperator, And, Or, Implies, Iff, Until, Release}

-- the tokens, and last a byte that begins none
pub data Token : Type 0 where
  ConstantWord : Bool → Token
  NameWord : Name → Token
  UnarySign : UnaryOperator → Token
  BinarySign : BinaryOperator → Token
  Open Close : Token
  Unknown : Token

-- a token and the places where it begins and ends
pub record Item : Type 0 where
  pub token : Token
  pub start : ℕ
  pub end : ℕ

-- The signs and their spellings. None begins another one, so at most one stands at a place
abbrev pub signs : List (List ℕ × Token)
signs =
    (codes "!", UnarySign Not) ∷ (codes "[]", UnarySign Always) ∷ (codes "<>", UnarySign Eventually) ∷ (codes "X", UnarySign Next)
    ∷ (codes "G", UnarySign Always) ∷ (codes "F", UnarySign Eventually)
    ∷ (codes "U", BinarySign Until) ∷ (codes "V", BinarySign Release) ∷ (codes "R", BinarySign Release)
    ∷ (codes "&&", BinarySign And) ∷ (codes "/\\", BinarySign And) ∷ (codes "||", BinarySign Or) ∷ (codes "\\/", BinarySign Or)
    ∷ (codes "->", BinarySign Implies) ∷ (codes "<->", BinarySign Iff) ∷ (codes "(", Open) ∷ (codes ")", Close) ∷ []

-- space, tab, CR and LF
abbrev pub is_blank : ℕ → Bool
is_blank b = b == 32 || b == 9 || b == 13 || b == 10

-- `a` to `z`
abbrev pub is_lower : ℕ → Bool
is_lower b = nat_le 97 b && nat_le b 122

-- `a` to `z`, `0` to `9` and `_`
abbrev pub is_name_byte : ℕ → Bool
is_name_byte b = is_lower b || nat_le 48 b && nat_le b 57 || b == 95

-- whether two names have the same bytes
abbrev pub same_name : Name → Name → Bool
same_name = pointwise nat_eq

-- a constant, or else a name
abbrev pub word_token : Name → Token
word_token n = if same_name n (codes "true") then ConstantWord true else if same_name n (codes "false") then ConstantWord false else NameWord n

abbrev pub sign_token : Option (List ℕ × Token) → Token × ℕ
sign_token (Some s) = (s.1, length s.0)
sign_token None = (Unknown, 1)

-- the longest token with which a text begins, and its length; a byte that begins no token is `Unknown`
abbrev pub first_token : ℕ → List ℕ → Token × ℕ
first_token b bs =
    let word = take_while is_name_byte (b ∷ bs) in
    if is_lower b then (word_token word, length word) else sign_token (find (λ s. starts_with nat_eq (b ∷ bs) s.0) signs)

-- nothing comes after a byte that begins no token
abbrev pub item_before : Token → ℕ → ℕ → List Item → List Item
item_before Unknown i j items = record { token = Unknown; start = i; end = j } ∷ []
item_before token i j items = record { token = token; start = i; end = j } ∷ items

-- the items of the bytes from a place on, of which the first `skip` belong to an earlier item
abbrev pub items_from : ℕ → ℕ → List ℕ → List Item
items_from skip at [] = []
items_from (suc skip) at (b ∷ bs) = items_from skip (at + 1) bs
items_from zero at (b ∷ bs) =
    let t = first_token b bs in
    let rest = items_from (if is_blank b then 0 else t.1 - 1) (at + 1) bs in
    if is_blank b then rest else item_before t.0 at (at + t.1) rest

-- the items of a text
abbrev pub items : List ℕ → List Item
items text = items_from 0 0 text

-- the tokens of a text
abbrev pub tokens : List ℕ → List Token
tokens text = map (λ i. i.token) (items text)
