-- The state of the lexer, and what a byte changes of it.
use Rattle.std.specs.Prelude.{ℕ, ◌+◌, ◌-◌, Bool, true, false, ◌||◌, ◌==◌, nat_le, if◌then◌else◌, List, [], ◌∷◌, ◌++◌, Option, Some, None}
use Rattle.ltl_spec.specs.Formulas.Tokens.{is_blank}
use Rattle.ltl_spec.specs.Hoa.HoaToken.{is_digit, begins_identifier, is_identifier_byte}
use Rattle.ltl_hoa.specs.declared.token.TokenKind.{TokenKind}
use Rattle.ltl_hoa.specs.declared.token.TokenKind.TheVariants as kind
use Rattle.ltl_hoa.specs.declared.lexer.Phase.{Phase}
use Rattle.ltl_hoa.specs.declared.lexer.Phase.TheVariants.{Between, Slash, Word, Zero, Digits, Mark, Text, Escape, Comment, CommentSlash, CommentStar, Ended}
use Rattle.ltl_hoa.specs.TokenView.{sign_kind, mark_kind, begins_mark}

pub record LexerView : Type 0 where
  pub phase : Phase
  pub text : List ℕ
  pub start : ℕ

-- the beginning
abbrev pub begun : LexerView
begun = record { phase = Between; text = []; start = 1 }

-- how many comments are open
abbrev pub depth_of : Phase → ℕ
depth_of (Comment depth) = depth
depth_of (CommentSlash depth) = depth
depth_of (CommentStar depth) = depth
depth_of _ = 0

abbrev pub sign_beginning : Option TokenKind → Phase × Option TokenKind
sign_beginning (Some k) = (Between, Some k)
sign_beginning None = (Ended, Some kind.Unknown)

-- what a byte between tokens begins, and the token that it is
abbrev pub beginning : ℕ → Phase × Option TokenKind
beginning b =
    if is_blank b then (Between, None) else
    if b == 47 then (Slash, None) else
    if b == 34 then (Text, None) else
    if b == 48 then (Zero, None) else
    if is_digit b then (Digits, None) else
    if begins_identifier b then (Word, None) else
    if b == 45 then (Mark, None) else sign_beginning (sign_kind b)

-- whether the token's bytes are its content
abbrev pub is_spelled : Phase → Bool
is_spelled Zero = true
is_spelled Digits = true
is_spelled Word = true
is_spelled Mark = true
is_spelled _ = false

-- a byte between tokens
abbrev pub spelled : ℕ → ℕ → Option TokenKind × LexerView
spelled line b = ((beginning b).1, record { phase = (beginning b).0; text = if is_spelled (beginning b).0 then b ∷ [] else []; start = line })

-- the token that ends before a byte
abbrev pub ended_kind : Phase → ℕ → Option TokenKind
ended_kind Word b = if is_identifier_byte b || b == 58 then None else Some kind.Identifier
ended_kind Digits b = if is_digit b then None else Some kind.Int
ended_kind Zero b = Some kind.Int
ended_kind _ b = None

abbrev pub rested : LexerView → LexerView
rested v = record v { phase = Between }

-- a byte of a comment
abbrev pub inside : ℕ → ℕ → Phase
inside depth b = if b == 47 then CommentSlash depth else if b == 42 then CommentStar depth else Comment depth

abbrev pub commented : Phase → ℕ → Phase
commented (Comment depth) b = inside depth b
commented (CommentSlash depth) b = if b == 42 then Comment (depth + 1) else inside depth b
commented (CommentStar depth) b = if b == 47 then (if nat_le depth 1 then Between else Comment (depth - 1)) else inside depth b
commented phase b = phase

-- a byte in a string
abbrev pub quoted_in : Phase → LexerView → ℕ → Option TokenKind × LexerView
quoted_in Text v b =
    if b == 34 then (Some kind.Text, record v { phase = Between }) else
    if b == 92 then (None, record v { phase = Escape }) else (None, record v { phase = Text; text = v.text ++ b ∷ [] })
quoted_in _ v b = (None, record v { phase = Text; text = v.text ++ b ∷ [] })

abbrev pub quoted : LexerView → ℕ → Option TokenKind × LexerView
quoted v b = quoted_in v.phase v b

-- a byte that goes on with a mark
abbrev pub marked_by : Option TokenKind → LexerView → Option TokenKind × LexerView
marked_by (Some k) v = (Some k, record v { phase = Between })
marked_by None v = if begins_mark v.text then (None, v) else (Some kind.Unknown, record v { phase = Ended })

abbrev pub taken_in : Phase → LexerView → ℕ → ℕ → Option TokenKind × LexerView
taken_in Between v line b = spelled line b
taken_in Word v line b = if b == 58 then (Some kind.Header, record v { phase = Between }) else (None, record v { text = v.text ++ b ∷ [] })
taken_in Digits v line b = (None, record v { text = v.text ++ b ∷ [] })
taken_in Mark v line b = marked_by (mark_kind (v.text ++ b ∷ [])) (record v { text = v.text ++ b ∷ [] })
taken_in Text v line b = quoted v b
taken_in Escape v line b = quoted v b
taken_in Slash v line b = if b == 42 then (None, record v { phase = Comment 1 }) else (Some kind.Unknown, record v { phase = Ended })
taken_in phase v line b = (None, record v { phase = commented phase b })

-- a byte of a line, before which no token ends: the token that ends with it, and the state behind it
abbrev pub taken : LexerView → ℕ → ℕ → Option TokenKind × LexerView
taken v line b = taken_in v.phase v line b

-- what the end of the text makes of the open token
abbrev pub last_kind : Phase → Option TokenKind
last_kind Between = None
last_kind Ended = None
last_kind Word = Some kind.Identifier
last_kind Zero = Some kind.Int
last_kind Digits = Some kind.Int
last_kind Slash = Some kind.Unknown
last_kind Mark = Some kind.Unknown
last_kind Text = Some kind.UnclosedText
last_kind Escape = Some kind.UnclosedText
last_kind (Comment depth) = Some kind.UnclosedComment
last_kind (CommentSlash depth) = Some kind.UnclosedComment
last_kind (CommentStar depth) = Some kind.UnclosedComment
