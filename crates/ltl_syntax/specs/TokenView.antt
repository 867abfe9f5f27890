-- The tokens of the code as tokens of the definitions.
use Rattle.std.specs.Prelude.{◌≡◌, ℕ, ◌≤◌, List, [], ◌∷◌, drop, length, slice_range, find, Option, Some, None, nat_eq}
use Rattle.std.specs.List.{starts_with}
use Rattle.ltl_spec.specs.Formulas.Tokens as spec
use Rattle.ltl_syntax.specs.declared.token.Token.{Token}
use Rattle.ltl_syntax.specs.declared.token.TokenKind.{TokenKind}
use Rattle.ltl_syntax.specs.declared.token.TokenKind.TheVariants.{Constant, Name, Unary, Binary, Open, Close, Unknown}
use Rattle.ltl_syntax.specs.FormulaView.{unary_of, binary_of}

-- the token of that kind with that text
abbrev pub token_of : List ℕ → TokenKind → spec.Token
token_of word (Constant b) = spec.ConstantWord b
token_of word Name = spec.NameWord word
token_of word (Unary op) = spec.UnarySign (unary_of op)
token_of word (Binary op) = spec.BinarySign (binary_of op)
token_of word Open = spec.Open
token_of word Close = spec.Close
token_of word Unknown = spec.Unknown

-- the item of a token of a text
abbrev pub item_of : List ℕ → Token → spec.Item
item_of text token = record { token = token_of (slice_range text token.start token.end) token.kind; start = token.start; end = token.end }

-- what is left to lex: the text, and the items that are still to come
pub record TokensView : Type 0 where
  pub text : List ℕ
  pub rest : List spec.Item

-- the items of a text from a place on
abbrev pub items_at : List ℕ → ℕ → List spec.Item
items_at text at = spec.items_from 0 at (drop at text)

-- one token is taken, or none is left
abbrev pub GivesToken : TokensView → Option Token → TokensView → Type 0
GivesToken old None new = (old.rest ≡ []) × (new ≡ old)
GivesToken old (Some token) new =
    (new.text ≡ old.text) × (old.rest ≡ item_of old.text token ∷ new.rest) × (token.start ≤ token.end) × (token.end ≤ length old.text)

-- the sign and the length of these three bytes
abbrev pub sign_of : ℕ → ℕ → ℕ → spec.Token × ℕ
sign_of b c d = spec.sign_token (find (λ s. starts_with nat_eq (b ∷ c ∷ d ∷ []) s.0) spec.signs)

-- a text's first token and its length
abbrev pub first_of : List ℕ → spec.Token × ℕ
first_of [] = (spec.Unknown, 1)
first_of (b ∷ bs) = spec.first_token b bs
