-- The state of the parser, what a token changes of it, and the state of the definition that it stands for.
use Rattle.std.specs.Prelude.{◌≡◌, ◌<◌, ◌≤◌, [], Option, Some, None, option_map, unwrap_or, Result, Ok, Err}
use Rattle.ltl_spec.specs.Tools.Limits.{stated_limits}
use Rattle.ltl_spec.specs.Hoa.HoaToken as token
use Rattle.ltl_spec.specs.Hoa.HoaToken.{HoaToken}
use Rattle.ltl_spec.specs.Hoa.HoaFaultKind.{HoaFaultKind, BadToken, TextAfterEnd}
use Rattle.ltl_spec.specs.Hoa.HoaPlace as spec
use Rattle.ltl_spec.specs.Hoa.HoaPlace.{Before, HoaHeader}
use Rattle.ltl_spec.specs.Hoa.HoaReading.{MarkedAutomaton}
use Rattle.ltl_spec.specs.Hoa.HoaStep.{Step}
use Rattle.ltl_hoa.specs.declared.fault.Stop.{Stop}
use Rattle.ltl_hoa.specs.declared.fault.Stop.TheVariants.{OutOfMemory}
use Rattle.ltl_hoa.specs.declared.header.Counts.{Counts}
use Rattle.ltl_hoa.specs.declared.marked.TheConstants.{MOST_SETS}
use Rattle.ltl_hoa.specs.declared.place.Place.{Place}
use Rattle.ltl_hoa.specs.declared.place.Place.TheVariants.{Format, Item, Body, End}
use Rattle.ltl_hoa.specs.declared.place.BodyPlace.{BodyPlace}
use Rattle.ltl_hoa.specs.declared.place.BodyPlace.TheVariants.{State}
use Rattle.ltl_hoa.specs.NumberView.{capped}
use Rattle.ltl_hoa.specs.HeaderView as header
use Rattle.ltl_hoa.specs.HeaderView.{HeaderView, Refuses, AreCounts, new_header, body_begun, place_of, Fits}
use Rattle.ltl_hoa.specs.BodyView.{BodyView, new_body}
use Rattle.ltl_hoa.specs.Shown as body
use Rattle.ltl_spec.specs.Hoa.HoaMachine.{Came, came_none}
use Rattle.ltl_hoa.specs.Shown.{ShowsBody, ShowsBodyPlace}

pub record ParserView : Type 0 where
  pub place : Place
  pub header : HeaderView
  -- behind `--BODY--`
  pub body : Option BodyView

abbrev pub new_parser : ParserView
new_parser = record { place = Format; header = new_header; body = None }

-- a call's answer as the next place
abbrev pub at_place : Result (Unit {0}) Stop → Place → Result Place Stop
at_place (Ok u) place = Ok place
at_place (Err stop) place = Err stop

-- the header takes the token
abbrev pub TakesInHeader : Place → ParserView → HoaToken → Result (Unit {0}) Stop → ParserView → Type 0
TakesInHeader place v t (Ok u) w = header.Takes place v.header t (Ok w.place) w.header
TakesInHeader place v t (Err stop) w = header.Takes place v.header t (Err stop) w.header

-- the body takes the token
abbrev pub BodyTakes : BodyPlace → BodyView → HoaToken → Result Place Stop → Option BodyView → Type 0
BodyTakes place b t r None = ⊥
BodyTakes place b t r (Some c) = body.Takes place b t r c

abbrev pub IsRefused : HoaFaultKind → Result (Unit {0}) Stop → Type 0
IsRefused kind (Ok u) = ⊥
IsRefused kind (Err stop) = Refuses kind stop

abbrev pub TakesBody : BodyPlace → ParserView → Option BodyView → HoaToken → Result (Unit {0}) Stop → ParserView → Type 0
TakesBody place v None t r w = IsRefused BadToken r
TakesBody place v (Some b) t r w = BodyTakes place b t (at_place r w.place) w.body × (w.header ≡ v.header)

abbrev pub TakesInBody : BodyPlace → ParserView → HoaToken → Result (Unit {0}) Stop → ParserView → Type 0
TakesInBody place v t r w = TakesBody place v v.body t r w

-- the body begins with what the header counts
pub record BeginsWith (c : Counts) (v : ParserView) (w : ParserView) : Type 0 where
  pub parser : w ≡ record { place = Body State; header = v.header; body = Some (new_body c) }
  pub counts : AreCounts c v.header.items
  pub names : c.names ≤ stated_limits.propositions
  pub sets : c.sets ≤ MOST_SETS
  pub some : 0 < c.states

-- `--BODY--` where an item may begin
abbrev pub Begins : Step → ParserView → Result (Unit {0}) Stop → ParserView → Type 0
Begins (Ok b) v (Ok u) w = (c : Counts) × BeginsWith c v w
Begins (Ok b) v (Err stop) w = stop ≡ OutOfMemory
Begins (Err kind) v (Ok u) w = ⊥
Begins (Err kind) v (Err stop) w = Refuses kind stop

-- a token at its place
abbrev pub TakesAt : Place → ParserView → HoaToken → Result (Unit {0}) Stop → ParserView → Type 0
TakesAt (Body place) v t r w = TakesInBody place v t r w
TakesAt End v t r w = IsRefused TextAfterEnd r
TakesAt (Item item) v token.Body r w = Begins (body_begun v.header) v r w
TakesAt place v t r w = TakesInHeader place v t r w

abbrev pub Takes : ParserView → HoaToken → Result (Unit {0}) Stop → ParserView → Type 0
Takes v t r w = TakesAt v.place v t r w

-- the text so far is an automaton
abbrev pub IsWholeWith : HeaderView → Option BodyView → Type 0
IsWholeWith h None = ⊥
IsWholeWith h (Some b) = header.IsWhole h b.edges

abbrev pub IsWhole : ParserView → Type 0
IsWhole v = IsWholeWith v.header v.body

abbrev pub IsAutomatonWith : HeaderView → Option BodyView → MarkedAutomaton → Type 0
IsAutomatonWith h None A = ⊥
IsAutomatonWith h (Some b) A = header.IsAutomaton h b.edges A

abbrev pub IsAutomaton : ParserView → MarkedAutomaton → Type 0
IsAutomaton v A = IsAutomatonWith v.header v.body A

-- ---- the header

abbrev pub capped_header : HoaHeader → HoaHeader
capped_header h = record h { start = option_map capped h.start }

-- the counts stay within their limits
abbrev pub IsFew : HoaHeader → Type 0
IsFew h = (unwrap_or h.states 0 ≤ stated_limits.hoa_states) × (unwrap_or h.sets 0 ≤ MOST_SETS)

pub record ShowsHeader (v : HeaderView) (h : HoaHeader) : Type 0 where
  pub items : v.items ≡ capped_header h
  pub few : IsFew h

-- ---- all

-- `--BODY--` has not stood
abbrev pub IsBegun : Before → Came → Type 0
IsBegun b g = (b.numbers ≡ []) × (b.edges ≡ 0) × (g ≡ came_none)

abbrev pub ShowsPlace : Place → ParserView → spec.Place → Before → Came → Type 0
ShowsPlace (Body p) v (spec.InBody q) b g = (body : BodyView) × (v.body ≡ Some body) × ShowsBodyPlace p body q × ShowsBody body q b g
ShowsPlace (Body p) v _ b g = ⊥
ShowsPlace End v spec.AtEnd b g = (body : BodyView) × (v.body ≡ Some body) × ShowsBody body spec.AtState b g
ShowsPlace End v _ b g = ⊥
ShowsPlace p v q b g = IsBegun b g × (place_of p v.header ≡ q) × Fits p v.header

-- the parser's state shows that of the definition, and what came of the body
pub record Shows (v : ParserView) (b : Before) (g : Came) : Type 0 where
  pub header : ShowsHeader v.header b.header
  pub place : ShowsPlace v.place v b.place b g
