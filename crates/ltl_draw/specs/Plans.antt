-- The command line of `ltldraw`, as `clap` documents its parsing, and the request that it makes.
use Rattle.std.specs.Prelude.{◌≡◌, List, [], Option, Some, None, Result, Ok, Err, MatchResult, codes, option_map}
use Rattle.clap.specs.Words.{App, Kinds, Row, Text, fault_of, first_of, found_of, matches_of, new_app, rows_of, with_rule}
use Rattle.clap.specs.declared.parser.matches.ArgMatches.{ArgMatches}
use Rattle.ltl_words.specs.Words.{value_rule}
use Rattle.ltl_words.specs.declared.request.PlanFault.{PlanFault}
use Rattle.ltl_words.specs.declared.request.PlanFault.TheVariants.{Usage, OutOfMemory}
use Rattle.ltl_draw.specs.declared.request.Plan.{Plan}
use Rattle.ltl_draw.specs.declared.request.Plan.TheVariants as plan

-- what a command line asks for: a drawing of an automaton, one with a run on a word, or the timeline of a word, with or without a formula. The automaton is in
-- the file with the name, if there is one, and else in the standard input
pub data Request : Type 0 where
  Picture : Option Text → Request
  Run : Text → Option Text → Request
  Timeline : Text → Option Text → Request

-- the name of the automaton's file
abbrev pub automaton_file : Result Request PlanFault → Option Text
automaton_file (Ok (Picture file)) = file
automaton_file (Ok (Run word file)) = file
automaton_file (Ok (Timeline word formula)) = None
automaton_file (Err e) = None

-- `-w lasso`, `-t lasso`, `-f formula` and `-A file`
abbrev pub draw_app : App
draw_app =
    with_rule (with_rule (with_rule (with_rule (new_app (codes "ltldraw")) (value_rule (codes "w") 119)) (value_rule (codes "t") 116)) (value_rule (codes "f") 102))
    (value_rule (codes "A") 65)

-- the request for the values of `-w`, `-t`, `-f` and `-A`, if they have a meaning: `-t` with `-w` or `-A`, and `-f` without `-t`, have none
abbrev pub request_for : Option Text → Option Text → Option Text → Option Text → Option Request
request_for (Some run) None None file = Some (Run run file)
request_for None (Some word) formula None = Some (Timeline word formula)
request_for None None None file = Some (Picture file)
request_for None (Some word) formula (Some file) = None
request_for (Some run) (Some word) formula file = None
request_for (Some run) None (Some formula) file = None
request_for None None (Some formula) file = None

abbrev pub request_of_rows : List Row → Option Request
request_of_rows rows = request_for (first_of (codes "w") rows) (first_of (codes "t") rows) (first_of (codes "f") rows) (first_of (codes "A") rows)

abbrev pub request_if : Kinds → List Row → Option Request
request_if [] rows = request_of_rows rows
request_if _ rows = None

-- the request of a command line, whose first word is the program's name; none if it is a usage error
abbrev pub request_of : List Text → Option Request
request_of words = request_if (fault_of draw_app words) (matches_of draw_app words)

-- a usage error only if the words have no meaning; lack of memory for any words
abbrev pub RefusesWords : List Text → PlanFault → Type 0
RefusesWords words Usage = request_of words ≡ None
RefusesWords words OutOfMemory = Unit {0}

abbrev pub Plans : List Text → Result Request PlanFault → Type 0
Plans words r = MatchResult r (λ p. request_of words ≡ Some p) (RefusesWords words)

-- the request is that of the command line, or there is no command line
abbrev pub PlansFor : Result (List Text) PlanFault → Result Request PlanFault → Type 0
PlansFor (Ok words) r = Plans words r
PlansFor (Err e) r = r ≡ Err e

-- the matches are those that `clap` documents for the words, or the words are refused
pub record IsMatched (words : List Text) (m : ArgMatches) : Type 0 where
  pub passes : fault_of draw_app words ≡ []
  pub rows : rows_of (found_of m) ≡ matches_of draw_app words

abbrev pub Matches : List Text → Result ArgMatches PlanFault → Type 0
Matches words r = MatchResult r (IsMatched words) (RefusesWords words)

-- ---- plans of the code

abbrev pub request_in : Plan → Request
request_in (plan.Picture file) = Picture (option_map (λ s. s.now) file)
request_in (plan.Run word file) = Run word.now (option_map (λ s. s.now) file)
request_in (plan.Timeline word formula) = Timeline word.now (option_map (λ s. s.now) formula)

abbrev pub requested : Result Plan PlanFault → Result Request PlanFault
requested (Ok p) = Ok (request_in p)
requested (Err e) = Err e
