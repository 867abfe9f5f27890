-- The canonical text of a formula is a text of it.
use Rattle.std.proofs.Common.{◌≡◌, ℕ, zero, suc, ◌<◌, Bool, true, false, inl, inr, List, [], ◌∷◌, ◌++◌, length, filter_map, slice_index_or, codes, refl, sym, ◌∙◌, ap, subst, arith, append_assoc, append-nil}
use Rattle.std.specs.Prelude.{⊤}
use Rattle.std.proofs.lemmas.List.Elements.{filter_map-append}
use Rattle.std.proofs.lemmas.Option.{slice_get-get_or, get_or_from_slice_get}
use Rattle.std.proofs.lemmas.Slice.Eq.{bytes_eq-Decides}
use Rattle.ltl_spec.specs.Collections.Sets.{Has}
use Rattle.ltl_spec.specs.Collections.Lists.{HasNoRepeats, first_occurrences}
use Rattle.ltl_spec.specs.Semantics.Word.{Name}
use Rattle.ltl_spec.specs.Formulas.Formula.{Formula, Constant, Proposition, Unary, Binary, UnaryOperator, Not, BinaryOperator, And, Reading}
use Rattle.ltl_spec.specs.Formulas.Tokens.{Token, ConstantWord, NameWord, UnarySign, BinarySign, Open, Close, same_name, tokens}
use Rattle.ltl_spec.specs.Formulas.Grammar.{Parses, of_constant, of_name, of_brackets, of_unary, of_tighter, of_left, of_right, rank_of, name_in, Reads, IsTextOf}
use Rattle.ltl_spec.specs.Formulas.Canonical.{constant_text, unary_text, binary_text, formula_text, canonical_text}
use Rattle.ltl_spec.proofs.Collections.SetLaws.{all_at, all_from, append_left, append_right}
use Rattle.ltl_spec.proofs.Collections.ListLaws.{Has-first_occurrences, HasNoRepeats-first_occurrences, first_occurrences_cases, Has-at}
use Rattle.ltl_spec.proofs.Formulas.GrammarMachine.{of_higher, of_binary, rank_bounds, left_rank, right_rank}
use Rattle.ltl_spec.proofs.Formulas.TokenLaws.{tokens_from, tokens_are, IsNameWord, EndsWord, word_tokens, name_token, text_names}
pub use Rattle.ltl_spec.specs.Formulas.Names.{names_in, IsNamed}

-- the tokens of the canonical text
abbrev pub formula_tokens : List Name → Formula → List Token
formula_tokens names (Constant b) = ConstantWord b ∷ []
formula_tokens names (Proposition p) = NameWord (slice_index_or names p []) ∷ []
formula_tokens names (Unary op a) = UnarySign op ∷ formula_tokens names a
formula_tokens names (Binary op a b) = Open ∷ (formula_tokens names a ++ BinarySign op ∷ formula_tokens names b) ++ Close ∷ []

-- each proposition has a name
abbrev pub HasNames : List Name → Formula → Type 0
HasNames names (Constant b) = ⊤
HasNames names (Proposition p) = p < length names
HasNames names (Unary op a) = HasNames names a
HasNames names (Binary op a b) = HasNames names a × HasNames names b

-- the tokens of the text

-- the token of a unary operator
unary_tokens : (op : UnaryOperator) (bs : List ℕ) → tokens_from 0 (unary_text op ++ bs) ≡ UnarySign op ∷ tokens_from 0 bs
unary_tokens Not bs = refl
unary_tokens _ bs = refl

-- of a binary one
binary_tokens : (op : BinaryOperator) (bs : List ℕ) → tokens_from 0 (binary_text op ++ bs) ≡ BinarySign op ∷ tokens_from 0 bs
binary_tokens And bs = refl
binary_tokens _ bs = refl

-- a word ends before an operator
binary_ends : (op : BinaryOperator) (bs : List ℕ) → EndsWord (binary_text op ++ bs)
binary_ends And bs = refl
binary_ends _ bs = refl

-- of a constant
constant_tokens : (b : Bool) (rest : List ℕ) → EndsWord rest → tokens_from 0 (constant_text b ++ rest) ≡ ConstantWord b ∷ tokens_from 0 rest
constant_tokens true rest e = word_tokens 116 (codes "rue") rest refl (refl, (refl, (refl, tt))) e
constant_tokens false rest e = word_tokens 102 (codes "alse") rest refl (refl, (refl, (refl, (refl, tt)))) e

-- of a name
name_tokens : (n : Name) (rest : List ℕ) → IsNameWord n → EndsWord rest → tokens_from 0 (n ++ rest) ≡ NameWord n ∷ tokens_from 0 rest
name_tokens [] rest w e = absurd w
name_tokens (b ∷ bs) rest w e = word_tokens b bs rest w.0 w.1 e ∙ ap (λ t. t ∷ tokens_from 0 rest) (name_token b bs w)

-- five pieces and the rest
five : (a b c d e r : List ℕ) → (a ++ b ++ c ++ d ++ e) ++ r ≡ a ++ (b ++ (c ++ (d ++ (e ++ r))))
five a b c d e r = simp append_assoc

-- and of a whole formula
text_tokens : (names : List Name) → ((p : ℕ) → p < length names → IsNameWord (slice_index_or names p [])) → (F : Formula) → HasNames names F
    → (rest : List ℕ) → EndsWord rest → tokens_from 0 (formula_text names F ++ rest) ≡ formula_tokens names F ++ tokens_from 0 rest
text_tokens names w (Constant b) h rest e = constant_tokens b rest e
text_tokens names w (Proposition p) h rest e = name_tokens (slice_index_or names p []) rest (w p h) e
text_tokens names w (Unary op a) h rest e =
    ap (tokens_from 0) (append_assoc (unary_text op) (formula_text names a) rest) ∙ unary_tokens op (formula_text names a ++ rest)
    ∙ ap (λ l. UnarySign op ∷ l) (text_tokens names w a h rest e)
text_tokens names w (Binary op a b) h rest e =
    let last = formula_text names b ++ (codes ")" ++ rest) in
    let sign = BinarySign op in
    ap (tokens_from 0) (five (codes "(") (formula_text names a) (binary_text op) (formula_text names b) (codes ")") rest)
    ∙ ap (λ l. Open ∷ l) (text_tokens names w a h.0 (binary_text op ++ last) (binary_ends op last)
    ∙ ap (λ l. formula_tokens names a ++ l) (binary_tokens op last ∙ ap (λ l. sign ∷ l) (text_tokens names w b h.1 (41 ∷ rest) refl)))
    ∙ regroup (formula_tokens names a) (formula_tokens names b) sign (tokens_from 0 rest)
  where
    regroup : (xs ys : List Token) (t : Token) (zs : List Token) → Open ∷ (xs ++ (t ∷ (ys ++ Close ∷ zs))) ≡ (Open ∷ (xs ++ t ∷ ys) ++ Close ∷ []) ++ zs
    regroup xs ys t zs = ap (λ l. Open ∷ l) (simp append_assoc)

-- the formula of these tokens

-- they parse as the formula
formula_parses : (names : List Name) (F : Formula) → HasNames names F → Parses names 0 (formula_tokens names F) F
formula_parses names (Constant b) h = of_constant b
formula_parses names (Proposition p) h = of_name (slice_index_or names p []) p (slice_get-get_or names p [] h)
formula_parses names (Unary op a) h = of_unary op (formula_tokens names a) a (formula_parses names a h)
formula_parses names (Binary op a b) h =
    let l = rank_bounds op in
    of_brackets (formula_tokens names a ++ BinarySign op ∷ formula_tokens names b) _ (Binary op a b) refl
    (of_higher 5 (rank_of op) _ (Binary op a b) l.1
    (of_binary op (formula_tokens names a) (formula_tokens names b) _ a b refl
    (of_higher (left_rank op) 0 _ a (omega arith) (formula_parses names a h.0)) (of_higher (right_rank op) 0 _ b (omega arith) (formula_parses names b h.1))))

-- and have the formula's names
formula_names : (names : List Name) (F : Formula) → filter_map name_in (formula_tokens names F) ≡ names_in names F
formula_names names (Constant b) = refl
formula_names names (Proposition p) = refl
formula_names names (Unary op a) = formula_names names a
formula_names names (Binary op a b) =
    filter_map-append name_in (formula_tokens names a ++ BinarySign op ∷ formula_tokens names b) (Close ∷ [])
    ∙ append-nil _ ∙ filter_map-append name_in (formula_tokens names a) (BinarySign op ∷ formula_tokens names b)
    ∙ (λ i. formula_names names a i ++ formula_names names b i)

-- each proposition then has a name
proper_below : (names : List Name) (p : ℕ) → IsNameWord (slice_index_or names p []) → p < length names
proper_below [] zero w = absurd w
proper_below [] (suc p) w = absurd w
proper_below (n ∷ names) zero w = omega arith
proper_below (n ∷ names) (suc p) w = let l = proper_below names p w in omega arith

-- where the names are proper, each proposition is below their count
names_within : (names : List Name) (F : Formula) → ((n : Name) → Has (names_in names F) n → IsNameWord n) → HasNames names F
names_within names (Constant b) h = tt
names_within names (Proposition p) h = proper_below names p (h (slice_index_or names p []) (inl refl))
names_within names (Unary op a) h = names_within names a h
names_within names (Binary op a b) h = (
  names_within names a (λ n k. h n (append_left (names_in names a) (names_in names b) n k)),
  names_within names b (λ n k. h n (append_right (names_in names a) (names_in names b) n k)),
)

-- so it is in a named reading
pub named_within : (R : Reading) → IsNamed R → HasNames R.names R.formula
named_within R d =
    names_within R.names R.formula
    (λ n h. all_at IsNameWord R.names n d.words (subst (λ l. Has l n) (sym d.numbered) (Has-first_occurrences same_name bytes_eq-Decides (names_in R.names R.formula) n h)))

-- The tokens of a canonical text
pub canonical_tokens : (R : Reading) → IsNamed R → tokens (canonical_text R) ≡ formula_tokens R.names R.formula
canonical_tokens R d =
    tokens_are (canonical_text R) ∙ ap (tokens_from 0) (sym (append-nil (canonical_text R)))
    ∙ text_tokens R.names (λ p l. all_at IsNameWord R.names _ d.words (Has-at R.names p [] l)) R.formula (named_within R d) [] tt ∙ append-nil _

-- The canonical text of a reading is a text of it
pub canonical_is_text : (R : Reading) → IsNamed R → IsTextOf (canonical_text R) R
canonical_is_text R d =
    subst (λ ts. Reads ts R) (sym (canonical_tokens R d)) (
      d.numbered ∙ ap (first_occurrences same_name) (sym (formula_names R.names R.formula)),
      of_higher 5 0 _ R.formula (omega arith) (formula_parses R.names R.formula (named_within R d)),
    )

-- which readings have it

-- what parses has the formula's names
parsed_names : {names : List Name} (r : ℕ) (ts : List Token) (F : Formula) → Parses names r ts F → filter_map name_in ts ≡ names_in names F
parsed_names r ts F (of_constant b) = refl
parsed_names {names} r ts F (of_name n p e) = ap (λ m. m ∷ []) (sym (get_or_from_slice_get names p n [] e))
parsed_names r us F (of_brackets ts us' F' e d) =
    ap (filter_map name_in) e ∙ filter_map-append name_in ts (Close ∷ []) ∙ append-nil _ ∙ parsed_names 5 ts F' d
parsed_names r us F (of_unary op ts F' d) = parsed_names 0 ts F' d
parsed_names r ts F (of_tighter r' ts' F' d) = parsed_names r' ts' F' d
parsed_names {names} r us F (of_left op r' xs ys us' a b i g e d f) =
    ap (filter_map name_in) e ∙ filter_map-append name_in xs (BinarySign op ∷ ys) ∙ (λ j. parsed_names (suc r') xs a d j ++ parsed_names r' ys b f j)
parsed_names {names} r us F (of_right op r' xs ys us' a b i g e d f) =
    ap (filter_map name_in) e ∙ filter_map-append name_in xs (BinarySign op ∷ ys) ∙ (λ j. parsed_names r' xs a d j ++ parsed_names (suc r') ys b f j)

-- a name of the tokens is one of them
has_name : (ts : List Token) (n : Name) → Has (filter_map name_in ts) n → Has ts (NameWord n)
has_name [] n h = absurd h
has_name (NameWord m ∷ ts) n (inl e) = inl (ap NameWord e)
has_name (NameWord m ∷ ts) n (inr h) = inr (has_name ts n h)
has_name (ConstantWord b ∷ ts) n h = inr (has_name ts n h)
has_name (_ ∷ ts) n h = inr (has_name ts n h)

-- Each reading of a text is named so
pub named_by_text : (text : List ℕ) (R : Reading) → IsTextOf text R → IsNamed R
named_by_text text R w = record {
  words = all_from IsNameWord R.names (λ n h.
      text_names text n (has_name (tokens text) n
      (first_occurrences_cases same_name bytes_eq-Decides (filter_map name_in (tokens text)) n (subst (λ l. Has l n) w.0 h))));
  numbered = w.0 ∙ ap (first_occurrences same_name) (parsed_names 5 (tokens text) R.formula w.1);
}

-- The canonical text of a text's reading reads as the same
pub canonical_again : (text : List ℕ) (R : Reading) → IsTextOf text R → IsTextOf (canonical_text R) R
canonical_again text R w = canonical_is_text R (named_by_text text R w)

-- no name stands twice
pub named_differ : (R : Reading) → IsNamed R → HasNoRepeats R.names
named_differ R d = subst HasNoRepeats (sym d.numbered) (HasNoRepeats-first_occurrences same_name bytes_eq-Decides (names_in R.names R.formula))
