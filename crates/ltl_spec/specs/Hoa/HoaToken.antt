-- The tokens of an automaton's text, each with its line. The longest token is taken, blanks and comments are left out.
use Rattle.std.specs.Prelude.{ℕ, zero, suc, ◌+◌, ◌-◌, ◌*◌, Bool, false, not, ◌&&◌, ◌||◌, ◌==◌, nat_eq, nat_le, if◌then◌else◌, List, [], ◌∷◌, ◌++◌, length, map, fold, take_while, count_by, find, Option, Some, None, option_map, codes}
use Rattle.std.specs.List.{starts_with}
use Rattle.ltl_spec.specs.Formulas.Tokens.{is_blank, is_lower}

-- the tokens, and what may stand where none begins
pub data HoaToken : Type 0 where
  -- by its content, and by its bytes; a header's name without its `:`
  StringToken Identifier Header : List ℕ → HoaToken
  Int : ℕ → HoaToken
  -- the marks
  Body End Abort : HoaToken
  OpenLabel CloseLabel OpenSets CloseSets OpenBracket CloseBracket NotSign AndSign OrSign : HoaToken
  -- a byte that begins no token, and what has no end
  Unknown UnclosedString UnclosedComment : HoaToken

-- a token and the line of its first byte
pub record HoaItem : Type 0 where
  pub token : HoaToken
  pub line : ℕ

-- The marks and signs, and their spellings. None begins another one, so at most one stands at a place
abbrev pub hoa_signs : List (List ℕ × HoaToken)
hoa_signs =
    (codes "--BODY--", Body) ∷ (codes "--END--", End) ∷ (codes "--ABORT--", Abort)
    ∷ (codes "[", OpenLabel) ∷ (codes "]", CloseLabel) ∷ (codes "{", OpenSets) ∷ (codes "}", CloseSets)
    ∷ (codes "(", OpenBracket) ∷ (codes ")", CloseBracket) ∷ (codes "!", NotSign) ∷ (codes "&", AndSign) ∷ (codes "|", OrSign) ∷ []

abbrev pub is_upper : ℕ → Bool
is_upper b = nat_le 65 b && nat_le b 90

abbrev pub is_digit : ℕ → Bool
is_digit b = nat_le 48 b && nat_le b 57

-- a letter or `_`
abbrev pub begins_identifier : ℕ → Bool
begins_identifier b = is_lower b || is_upper b || b == 95

-- the same, a digit or `-`
abbrev pub is_identifier_byte : ℕ → Bool
is_identifier_byte b = begins_identifier b || is_digit b || b == 45

-- the number that digits write
abbrev pub number_of : List ℕ → ℕ
number_of digits = fold (λ n d. 10 * n + (d - 48)) 0 digits

-- A string from behind its `"` up to the `"` that ends it: its content and how many bytes there are. A `\` is taken away, and the byte
-- behind it is taken as it is; `kept` says that a `\` stands right before
abbrev pub string_rest : Bool → List ℕ → Option (List ℕ × ℕ)
string_rest kept [] = None
string_rest kept (b ∷ bs) =
    let keeps = not kept && b == 92 in
    let rest = string_rest keeps bs in
    if not kept && b == 34 then Some ([], 1) else option_map (λ r. (if keeps then r.0 else b ∷ r.0, r.1 + 1)) rest

abbrev pub string_found : Option (List ℕ × ℕ) → Option HoaToken × ℕ
string_found (Some s) = (Some (StringToken s.0), s.1 + 1)
string_found None = (Some UnclosedString, 1)

-- How many bytes there are up to the end of the comments, of which `depth` are open. The first `skip` bytes belong to a mark
abbrev pub comment_rest : ℕ → ℕ → List ℕ → Option ℕ
comment_rest skip depth [] = None
comment_rest (suc skip) depth (b ∷ bs) = option_map (λ n. n + 1) (comment_rest skip depth bs)
comment_rest zero depth (b ∷ bs) =
    let opens = starts_with nat_eq (b ∷ bs) (codes "/*") in
    let closes = starts_with nat_eq (b ∷ bs) (codes "*/") in
    let rest = comment_rest (if opens || closes then 1 else 0) (if opens then depth + 1 else if closes then depth - 1 else depth) bs in
    if closes && depth == 1 then Some 2 else option_map (λ n. n + 1) rest

abbrev pub comment_found : Option ℕ → Option HoaToken × ℕ
comment_found (Some size) = (None, size)
comment_found None = (Some UnclosedComment, 1)

-- an identifier, or with a `:` right behind it a header's name
abbrev pub word_found : List ℕ → Bool → Option HoaToken × ℕ
word_found word named = if named then (Some (Header word), length word + 1) else (Some (Identifier word), length word)

abbrev pub sign_found : Option (List ℕ × HoaToken) → Option HoaToken × ℕ
sign_found (Some s) = (Some s.1, length s.0)
sign_found None = (Some Unknown, 1)

-- the token that a text begins with, none for a blank or a comment, and how many bytes it has
abbrev pub found_first : ℕ → List ℕ → Option HoaToken × ℕ
found_first b bs =
    let text = b ∷ bs in
    let word = take_while is_identifier_byte text in
    let digits = take_while is_digit text in
    if is_blank b then (None, 1) else
    if starts_with nat_eq text (codes "/*") then comment_found (comment_rest 2 1 text) else
    if b == 34 then string_found (string_rest false bs) else
    if b == 48 then (Some (Int 0), 1) else
    if is_digit b then (Some (Int (number_of digits)), length digits) else
    if begins_identifier b then word_found word (starts_with nat_eq text (word ++ codes ":")) else
    sign_found (find (λ s. starts_with nat_eq text s.0) hoa_signs)

-- nothing comes after what has no end or begins no token
abbrev pub hoa_item_before : Option HoaToken → ℕ → List HoaItem → List HoaItem
hoa_item_before None line items = items
hoa_item_before (Some Unknown) line items = record { token = Unknown; line = line } ∷ []
hoa_item_before (Some UnclosedString) line items = record { token = UnclosedString; line = line } ∷ []
hoa_item_before (Some UnclosedComment) line items = record { token = UnclosedComment; line = line } ∷ []
hoa_item_before (Some token) line items = record { token = token; line = line } ∷ items

-- the items of the bytes from a line on, of which the first `skip` belong to what came before
abbrev pub hoa_items_from : ℕ → ℕ → List ℕ → List HoaItem
hoa_items_from skip line [] = []
hoa_items_from (suc skip) line (b ∷ bs) = hoa_items_from skip (if b == 10 then line + 1 else line) bs
hoa_items_from zero line (b ∷ bs) =
    let (token, size) = found_first b bs in
    let rest = hoa_items_from (size - 1) (if b == 10 then line + 1 else line) bs in
    hoa_item_before token line rest

-- the items of a text
abbrev pub hoa_items : List ℕ → List HoaItem
hoa_items text = hoa_items_from 0 1 text

-- the tokens of a text
abbrev pub hoa_tokens : List ℕ → List HoaToken
hoa_tokens text = map (λ i. i.token) (hoa_items text)

-- the line of the end
abbrev pub last_line : List ℕ → ℕ
last_line text = 1 + count_by (λ b. b == 10) text
