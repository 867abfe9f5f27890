-- The state of the reader of names, what a byte changes of it, and its relation to the text so far.
use Rattle.std.specs.Prelude.{◌≡◌, ◌≤◌, ◌<◌, ◌+◌, ℕ, Bool, false, ◌==◌, ◌&&◌, ◌||◌, true, List, [], ◌∷◌, ◌++◌, length, map, Option, Some, None, slice_index_or}
use Rattle.ltl_spec.specs.Hoa.HoaToken.{HoaToken, HoaItem, StringToken, Header, Int, hoa_items}
use Rattle.ltl_spec.specs.Hoa.HoaNames.{HoaNames, is_same, first_behind, before_automaton, before_state}
use Rattle.ltl_hoa.specs.declared.token.TokenKind.{TokenKind}
use Rattle.ltl_hoa.specs.declared.token.TokenKind.TheVariants as kind
use Rattle.ltl_hoa.specs.declared.naming.Owner.{Owner}
use Rattle.ltl_hoa.specs.declared.naming.Owner.TheVariants.{Nothing}
use Rattle.ltl_hoa.specs.TokenView.{token_of}
use Rattle.ltl_hoa.specs.LexerView.{LexerView, begun, ended_kind, rested, taken}
use Rattle.ltl_hoa.specs.StreamReaderView.{line_behind}
use Rattle.ltl_hoa.specs.NamingView.{nameless, next_owner, named}

pub record NamesReaderView : Type 0 where
  pub line : ℕ
  pub lexer : LexerView
  pub owner : Owner
  pub names : HoaNames

abbrev pub new_names_reader : ℕ → NamesReaderView
new_names_reader states = record { line = 1; lexer = begun; owner = Nothing; names = nameless states }

-- the names behind a token
abbrev pub names_behind : TokenKind → Owner → List ℕ → HoaNames → HoaNames
names_behind kind.Text owner text n = named owner text n
names_behind _ owner text n = n

-- the token that has ended is taken
abbrev pub token_taken : NamesReaderView → TokenKind → NamesReaderView
token_taken v k = record v { owner = next_owner v.owner (token_of k v.lexer.text); names = names_behind k v.owner v.lexer.text v.names }

-- the token that ends before a byte
abbrev pub ended_taken : Option TokenKind → NamesReaderView → NamesReaderView
ended_taken None v = v
ended_taken (Some k) v = record (token_taken v k) { lexer = rested v.lexer }

abbrev pub before_taken : NamesReaderView → ℕ → NamesReaderView
before_taken v b = ended_taken (ended_kind v.lexer.phase b) v

-- the token that ends with it
abbrev pub fed_taken : Option TokenKind × LexerView → NamesReaderView → NamesReaderView
fed_taken (None, x) v = record v { lexer = x }
fed_taken (Some k, x) v = token_taken (record v { lexer = x }) k

-- a byte
abbrev pub byte_taken : NamesReaderView → ℕ → NamesReaderView
byte_taken v b =
    let u = before_taken v b in
    record (fed_taken (taken u.lexer u.line b) u) { line = line_behind v.line b }
