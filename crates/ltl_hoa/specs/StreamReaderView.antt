-- The state of the streaming reader, and what a byte changes of it.
use Rattle.std.specs.Prelude.{◌≡◌, true, ℕ, ◌+◌, ◌==◌, if◌then◌else◌, ◌≤◌, Option, Some, None, Result, Ok, Err, is_some}
use Rattle.ltl_spec.specs.Tools.Limits.{stated_limits}
use Rattle.ltl_hoa.specs.declared.fault.Stop.{Stop}
use Rattle.ltl_hoa.specs.declared.fault.Stop.TheVariants.{Fault, OutOfMemory}
use Rattle.ltl_hoa.specs.declared.stream_reader.Found.{Found}
use Rattle.ltl_hoa.specs.declared.place.Place.{Place}
use Rattle.ltl_hoa.specs.declared.place.Place.TheVariants.{End}
use Rattle.ltl_hoa.specs.declared.token.TokenKind.{TokenKind}
use Rattle.ltl_hoa.specs.declared.token.TokenKind.TheVariants.{UnclosedText, UnclosedComment}
use Rattle.ltl_hoa.specs.TokenView.{token_of}
use Rattle.ltl_hoa.specs.LexerView.{LexerView, begun, depth_of, ended_kind, rested, taken}
use Rattle.ltl_hoa.specs.ParserView.{ParserView, new_parser, Takes}

pub record StreamReaderView : Type 0 where
  -- how many bytes, and the line behind them
  pub given : ℕ
  pub line : ℕ
  pub lexer : LexerView
  pub parser : ParserView
  pub fault : Option Found

-- the counts stay within the text's limit
pub record IsStreamReader (m : StreamReaderView) : Type 0 where
  pub given : m.given ≤ stated_limits.hoa_bytes
  pub line : m.line ≤ m.given + 1
  pub depth : depth_of m.lexer.phase ≤ m.given

-- the line behind a byte
abbrev pub line_behind : ℕ → ℕ → ℕ
line_behind line b = if b == 10 then line + 1 else line

abbrev pub new_stream_reader : StreamReaderView
new_stream_reader = record { given = 0; line = 1; lexer = begun; parser = new_parser; fault = None }

-- the line of a fault at a token
abbrev pub fault_line : Place → TokenKind → ℕ → ℕ → ℕ
fault_line place UnclosedComment start last = last
fault_line End UnclosedText start last = start
fault_line place UnclosedText start last = last
fault_line place _ start last = start

-- the fault that a call's answer adds
abbrev pub FaultIs : StreamReaderView → TokenKind → Result (Unit {0}) Stop → Option Found → Type 0
FaultIs v kind (Ok u) fault = fault ≡ v.fault
FaultIs v kind (Err (Fault k)) fault = fault ≡ Some (record { line = fault_line v.parser.place kind v.lexer.start v.line; kind = k })
FaultIs v kind (Err OutOfMemory) fault = ⊥

-- the token that has ended is taken
pub record TakesToken (v : StreamReaderView) (kind : TokenKind) (w : StreamReaderView) : Type 0 where
  pub given : w.given ≡ v.given
  pub line : w.line ≡ v.line
  pub lexer : w.lexer ≡ v.lexer
  pub answer : Result (Unit {0}) Stop
  pub parser : Takes v.parser (token_of kind v.lexer.text) answer w.parser
  pub fault : FaultIs v kind answer w.fault

-- the token that ends before a byte
abbrev pub EndsToken : Option TokenKind → StreamReaderView → StreamReaderView → Type 0
EndsToken None v u = u ≡ v
EndsToken (Some kind) v u = (x : StreamReaderView) × TakesToken v kind x × (u ≡ record x { lexer = rested x.lexer })

-- the token that ends with it
abbrev pub Feeds : Option TokenKind × LexerView → StreamReaderView → StreamReaderView → Type 0
Feeds (None, x) u w = w ≡ record u { lexer = x }
Feeds (Some kind, x) u w = TakesToken (record u { lexer = x }) kind w

-- both, or the fault of the first
pub data Lexes (v : StreamReaderView) (byte : ℕ) (w : StreamReaderView) : Type 0 where
  -- a fault was met before
  met : is_some v.fault ≡ true → w ≡ v → Lexes v byte w
  through : v.fault ≡ None → (u : StreamReaderView) → EndsToken (ended_kind v.lexer.phase byte) v u → u.fault ≡ None → Feeds (taken u.lexer u.line byte) u w → Lexes v byte w
  stopped : v.fault ≡ None → EndsToken (ended_kind v.lexer.phase byte) v w → is_some w.fault ≡ true → Lexes v byte w
