-- The tokens that a lexer in a given state makes of the rest of a text.
use Rattle.std.specs.Prelude.{◌≡◌, ℕ, ◌≤◌, Bool, true, false, ◌||◌, ◌==◌, nat_eq, codes, List, [], ◌∷◌, ◌++◌, Option, Some, None, ⊤}
use Rattle.std.specs.List.{list_all, starts_with}
use Rattle.ltl_spec.specs.Hoa.HoaToken.{HoaItem, StringToken, UnclosedString, UnclosedComment, hoa_items_from, string_rest, comment_rest, begins_identifier, is_identifier_byte, is_digit}
use Rattle.ltl_hoa.specs.declared.token.TokenKind.{TokenKind}
use Rattle.ltl_hoa.specs.declared.lexer.Phase.{Phase}
use Rattle.ltl_hoa.specs.declared.lexer.Phase.TheVariants.{Between, Slash, Word, Zero, Digits, Mark, Text, Escape, Comment, CommentSlash, CommentStar, Ended}
use Rattle.ltl_hoa.specs.TokenView.{token_of, begins_mark}
use Rattle.ltl_hoa.specs.LexerView.{LexerView}

-- the token that has ended
abbrev pub item_of : TokenKind → LexerView → HoaItem
item_of kind v = record { token = token_of kind v.text; line = v.start }

abbrev pub with_item : Option TokenKind → LexerView → List HoaItem → List HoaItem
with_item (Some kind) v items = item_of kind v ∷ items
with_item None v items = items

-- behind a string's content so far, or with no end
abbrev pub string_items : ℕ → ℕ → List ℕ → Option (List ℕ × ℕ) → List ℕ → List HoaItem
string_items start line text (Some s) rest = record { token = StringToken (text ++ s.0); line = start } ∷ hoa_items_from s.1 line rest
string_items start line text None rest = record { token = UnclosedString; line = start } ∷ []

-- behind comments, or with no end
abbrev pub comment_items : ℕ → ℕ → Option ℕ → List ℕ → List HoaItem
comment_items start line (Some size) rest = hoa_items_from size line rest
comment_items start line None rest = record { token = UnclosedComment; line = start } ∷ []

abbrev pub resume_in : Phase → LexerView → ℕ → List ℕ → List HoaItem
resume_in Between v line rest = hoa_items_from 0 line rest
resume_in Slash v line rest = hoa_items_from 0 line (47 ∷ rest)
resume_in Word v line rest = hoa_items_from 0 line (v.text ++ rest)
resume_in Zero v line rest = hoa_items_from 0 line (v.text ++ rest)
resume_in Digits v line rest = hoa_items_from 0 line (v.text ++ rest)
resume_in Mark v line rest = hoa_items_from 0 line (v.text ++ rest)
resume_in Text v line rest = string_items v.start line v.text (string_rest false rest) rest
resume_in Escape v line rest = string_items v.start line v.text (string_rest true rest) rest
resume_in (Comment depth) v line rest = comment_items v.start line (comment_rest 0 depth rest) rest
resume_in (CommentSlash depth) v line rest = comment_items v.start line (comment_rest 0 depth (47 ∷ rest)) (47 ∷ rest)
resume_in (CommentStar depth) v line rest = comment_items v.start line (comment_rest 0 depth (42 ∷ rest)) (42 ∷ rest)
resume_in Ended v line rest = []

-- the items of these bytes from a line on, behind what the lexer holds
abbrev pub resume : LexerView → ℕ → List ℕ → List HoaItem
resume v line rest = resume_in v.phase v line rest

abbrev pub IsWordText : List ℕ → Type 0
IsWordText [] = ⊥
IsWordText (b ∷ bs) = (begins_identifier b ≡ true) × (list_all is_identifier_byte bs ≡ true)

abbrev pub IsNumberText : List ℕ → Type 0
IsNumberText [] = ⊥
IsNumberText (b ∷ bs) = (is_digit b ≡ true) × ((b == 48) ≡ false) × (list_all is_digit bs ≡ true)

-- whether the bytes begin with a mark
abbrev pub has_mark : List ℕ → Bool
has_mark text = starts_with nat_eq text (codes "--BODY--") || starts_with nat_eq text (codes "--END--") || starts_with nat_eq text (codes "--ABORT--")

abbrev pub IsMarkText : List ℕ → Type 0
IsMarkText [] = ⊥
IsMarkText (b ∷ bs) = (b ≡ 45) × (begins_mark (b ∷ bs) ≡ true) × (has_mark (b ∷ bs) ≡ false)

-- what holds of an open token
abbrev pub IsLexingIn : Phase → LexerView → ℕ → Type 0
IsLexingIn Slash v line = v.start ≡ line
IsLexingIn Word v line = (v.start ≡ line) × IsWordText v.text
IsLexingIn Zero v line = (v.start ≡ line) × (v.text ≡ 48 ∷ [])
IsLexingIn Digits v line = (v.start ≡ line) × IsNumberText v.text
IsLexingIn Mark v line = (v.start ≡ line) × IsMarkText v.text
IsLexingIn (Comment depth) v line = 1 ≤ depth
IsLexingIn (CommentSlash depth) v line = 1 ≤ depth
IsLexingIn (CommentStar depth) v line = 1 ≤ depth
IsLexingIn _ v line = ⊤

abbrev pub IsLexing : LexerView → ℕ → Type 0
IsLexing v line = IsLexingIn v.phase v line
