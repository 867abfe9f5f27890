-- When two names are the same.
use Rattle.std.proofs.Common.{◌≡◌, true, false, not, ◌&&◌, ◌||◌, refl, ℕ, ◌<◌, List, [], ◌∷◌, codes, length, sym, ◌∙◌, ap, Some}
use Rattle.std.specs.Bool.{Decides}
use Rattle.std.specs.Cmp.Lexicographic.{pointwise_decides}
use Rattle.std.specs.List.{list_all}
use Rattle.std.proofs.lemmas.Bool.{false_from_ne_true}
use Rattle.std.proofs.lemmas.Bool.Decides.{Decides-eqb}
use Rattle.std.specs.Prelude.{slice_get, slice_index_or}
use Rattle.std.proofs.lemmas.Option.{slice_get_within, get_or_from_slice_get}
use Rattle.ltl_spec.specs.Semantics.Word.{Name}
use Rattle.ltl_spec.specs.Formulas.Names.{IsNameWord, is_constant, is_proposition}
use Rattle.ltl_spec.specs.Formulas.Tokens.{is_name_byte, same_name}
use Rattle.ltl_spec.specs.Collections.Lists.{HasNoRepeats, place_of}
use Rattle.ltl_spec.proofs.Collections.SetLaws.{all_at}
use Rattle.ltl_spec.proofs.Collections.ListLaws.{place_again}
use Rattle.ltl_spec.proofs.Collections.MemberLaws.{all_Decides}

pub same_name_Decides : (m n : Name) → Decides (same_name m n) (m ≡ n)
same_name_Decides = pointwise_decides Decides-eqb

-- a name is the same as itself alone
pub same_self : (n : Name) → same_name n n ≡ true
same_self n = (same_name_Decides n n).1 refl

pub same_exact : (m n : Name) → same_name m n ≡ true → m ≡ n
same_exact m n e = (same_name_Decides m n).0 e

-- the place of a name that stands once
pub place_only : (names : List Name) (n : Name) (p : ℕ) → HasNoRepeats names → slice_get names p ≡ Some n → place_of same_name n names ≡ p
place_only names n p d e =
    let inside = slice_get_within names p n e in
    ap (λ m. place_of same_name m names) (sym (get_or_from_slice_get names p n [] e)) ∙ place_again same_name same_name_Decides names p [] d inside

-- different places have different names
pub same_place : (names : List Name) → HasNoRepeats names → (p q : ℕ) → p < length names → q < length names → slice_index_or names p [] ≡ slice_index_or names q [] → p ≡ q
same_place names d p q l m e = sym (place_again same_name same_name_Decides names p [] d l) ∙ ap (λ n. place_of same_name n names) e ∙ place_again same_name same_name_Decides names q [] d m

-- what the lexer takes as a name is a proposition
pub word_proposition : (n : Name) → IsNameWord n → is_proposition n ≡ true
word_proposition [] w = absurd w
word_proposition (b ∷ bs) w =
    let first : same_name (b ∷ bs) (codes "true") ≡ false = false_from_ne_true _ (λ e. w.2 ((same_name_Decides (b ∷ bs) (codes "true")).0 e)) in
    let second : same_name (b ∷ bs) (codes "false") ≡ false = false_from_ne_true _ (λ e. w.3 ((same_name_Decides (b ∷ bs) (codes "false")).0 e)) in
    let bytes : list_all is_name_byte bs ≡ true = (all_Decides is_name_byte bs).1 (λ c h. all_at (λ d. is_name_byte d ≡ true) bs c w.1 h) in
    ap (λ t. t && list_all is_name_byte bs && not (is_constant (b ∷ bs))) w.0
    ∙ ap (λ t. t && not (is_constant (b ∷ bs))) bytes
    ∙ ap (λ t. not (t || same_name (b ∷ bs) (codes "false"))) first
    ∙ ap not second
