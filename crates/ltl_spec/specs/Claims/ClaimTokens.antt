-- The tokens of a never claim's text. The longest token is taken, blanks and comments are left out.
use Rattle.std.specs.Prelude.{◌≡◌, ℕ, zero, suc, ◌+◌, ◌-◌, Bool, true, false, not, ◌||◌, nat_eq, if◌then◌else◌, List, [], ◌∷◌, ◌++◌, length, drop, take_while, find, Option, Some, None, option_map, unwrap_or, codes}
use Rattle.std.specs.List.{list_all, list_any, starts_with}
use Rattle.ltl_spec.specs.Semantics.Word.{Name}
use Rattle.ltl_spec.specs.Formulas.Tokens.{is_blank, same_name}
use Rattle.ltl_spec.specs.Hoa.HoaToken.{is_digit, begins_identifier}

-- The tokens of claims. `Truth` is `true`, `skip` or `1`, or else `false` or `0`; `Separator` is `;` or `->`; `Foreign` is any other word, number or sign of
-- Promela, and what has no end or begins no token
pub data ClaimToken : Type 0 where
  Word : Name → ClaimToken
  Truth : Bool → ClaimToken
  Never Assert Atomic Do Od If Fi Goto Break Else : ClaimToken
  OpenBrace CloseBrace OpenBracket CloseBracket OptionSign Colon Separator NotSign AndSign OrSign Foreign : ClaimToken

-- the words and numbers that a claim may have, and their spellings
abbrev pub claim_words : List (List ℕ × ClaimToken)
claim_words =
    (codes "never", Never) ∷ (codes "assert", Assert) ∷ (codes "atomic", Atomic) ∷ (codes "do", Do) ∷ (codes "od", Od) ∷ (codes "if", If) ∷ (codes "fi", Fi) ∷ (codes "goto", Goto)
    ∷ (codes "break", Break) ∷ (codes "else", Else) ∷ (codes "true", Truth true) ∷ (codes "skip", Truth true) ∷ (codes "1", Truth true) ∷ (codes "false", Truth false) ∷ (codes "0", Truth false) ∷ []

-- the signs; one that begins another one stands behind it
abbrev pub claim_signs : List (List ℕ × ClaimToken)
claim_signs =
    (codes "{", OpenBrace) ∷ (codes "}", CloseBrace) ∷ (codes "(", OpenBracket) ∷ (codes ")", CloseBracket) ∷ (codes "::", OptionSign) ∷ (codes ":", Colon)
    ∷ (codes ";", Separator) ∷ (codes "->", Separator) ∷ (codes "!", NotSign) ∷ (codes "&&", AndSign) ∷ (codes "||", OrSign) ∷ []

-- the words of Promela, which are no names
abbrev pub promela_words : List Name
promela_words =
    codes "active" ∷ codes "assert" ∷ codes "atomic" ∷ codes "bit" ∷ codes "bool" ∷ codes "break" ∷ codes "byte" ∷ codes "c_code" ∷ codes "c_decl" ∷ codes "c_expr" ∷ codes "c_state"
    ∷ codes "c_track" ∷ codes "chan" ∷ codes "d_step" ∷ codes "D_proctype" ∷ codes "do" ∷ codes "else" ∷ codes "empty" ∷ codes "enabled" ∷ codes "eval" ∷ codes "false" ∷ codes "fi"
    ∷ codes "for" ∷ codes "full" ∷ codes "get_priority" ∷ codes "goto" ∷ codes "hidden" ∷ codes "if" ∷ codes "init" ∷ codes "inline" ∷ codes "int" ∷ codes "len" ∷ codes "local"
    ∷ codes "ltl" ∷ codes "mtype" ∷ codes "nempty" ∷ codes "never" ∷ codes "nfull" ∷ codes "notrace" ∷ codes "np_" ∷ codes "od" ∷ codes "of" ∷ codes "pc_value" ∷ codes "pid"
    ∷ codes "printf" ∷ codes "printm" ∷ codes "priority" ∷ codes "proctype" ∷ codes "provided" ∷ codes "return" ∷ codes "run" ∷ codes "select" ∷ codes "set_priority" ∷ codes "short"
    ∷ codes "show" ∷ codes "skip" ∷ codes "timeout" ∷ codes "trace" ∷ codes "true" ∷ codes "typedef" ∷ codes "unless" ∷ codes "unsigned" ∷ codes "xr" ∷ codes "xs" ∷ []

abbrev pub is_promela_word : Name → Bool
is_promela_word w = list_any (same_name w) promela_words

-- none of the names is a word of Promela
abbrev pub HasNoPromelaWord : List Name → Type 0
HasNoPromelaWord names = list_all (λ n. not (is_promela_word n)) names ≡ true

abbrev pub is_word_byte : ℕ → Bool
is_word_byte b = begins_identifier b || is_digit b

-- one of the claim's own words or numbers, or else another token
abbrev pub listed_or : ClaimToken → List ℕ → ClaimToken
listed_or other word = unwrap_or (option_map (λ w. w.1) (find (λ w. same_name word w.0) claim_words)) other

-- how many bytes there are up to the end of the comment
abbrev pub comment_rest : List ℕ → Option ℕ
comment_rest [] = None
comment_rest (b ∷ bs) = if starts_with nat_eq (b ∷ bs) (codes "*/") then Some 2 else option_map (λ n. n + 1) (comment_rest bs)

-- the token that a text begins with, none for a blank or a comment, and how many bytes it has
abbrev pub first_found : ℕ → List ℕ → List ClaimToken × ℕ
first_found b bs =
    let text = b ∷ bs in
    let word = take_while is_word_byte text in
    let digits = take_while is_digit text in
    if is_blank b then ([], 1) else
    if starts_with nat_eq text (codes "/*") then unwrap_or (option_map (λ n. ([], n + 2)) (comment_rest (drop 1 bs))) (Foreign ∷ [], 1) else
    if is_digit b then (listed_or Foreign digits ∷ [], length digits) else
    if begins_identifier b then (listed_or (if is_promela_word word then Foreign else Word word) word ∷ [], length word) else
    unwrap_or (option_map (λ s. (s.1 ∷ [], length s.0)) (find (λ s. starts_with nat_eq text s.0) claim_signs)) (Foreign ∷ [], 1)

-- the tokens of the bytes, of which the first `skip` belong to what came before
abbrev pub claim_tokens_from : ℕ → List ℕ → List ClaimToken
claim_tokens_from skip [] = []
claim_tokens_from (suc skip) (b ∷ bs) = claim_tokens_from skip bs
claim_tokens_from zero (b ∷ bs) = let (tokens, size) = first_found b bs in tokens ++ claim_tokens_from (size - 1) bs

-- the tokens of a text
abbrev pub claim_tokens : List ℕ → List ClaimToken
claim_tokens text = claim_tokens_from 0 text
