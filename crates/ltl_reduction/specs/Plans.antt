-- The command line of `ltlreduce`, as `clap` documents its parsing, and the request that it makes.
use Rattle.std.specs.Prelude.{◌≡◌, Bool, List, [], Option, Some, None, Result, Ok, Err, MatchResult, codes, option_map}
use Rattle.clap.specs.Words.{App, Kinds, Row, Text, fault_of, first_of, found_of, matches_of, new_app, rows_of, with_rule}
use Rattle.clap.specs.declared.parser.matches.ArgMatches.{ArgMatches}
use Rattle.ltl_words.specs.Words.{flag_rule, has_flag, value_rule}
use Rattle.ltl_words.specs.declared.request.PlanFault.{PlanFault}
use Rattle.ltl_words.specs.declared.request.PlanFault.TheVariants.{Usage, OutOfMemory}
use Rattle.ltl_reduction.specs.declared.request.Plan.{Plan}

-- whether a never claim is asked for, and an automaton: in the file with the name, if there is one, and else in the standard input
pub record Request : Type 0 where
  pub claim : Bool
  pub file : Option Text

-- the name of the automaton's file
abbrev pub automaton_file : Result Request PlanFault → Option Text
automaton_file (Ok request) = request.file
automaton_file (Err e) = None

-- `-c` and `-A file`
abbrev pub reduce_app : App
reduce_app = with_rule (with_rule (new_app (codes "ltlreduce")) (flag_rule (codes "c") 99)) (value_rule (codes "A") 65)

abbrev pub request_of_rows : List Row → Request
request_of_rows rows = record { claim = has_flag (codes "c") rows; file = first_of (codes "A") rows }

abbrev pub request_if : Kinds → List Row → Option Request
request_if [] rows = Some (request_of_rows rows)
request_if _ rows = None

-- the request of a command line, whose first word is the program's name; none if it is a usage error
abbrev pub request_of : List Text → Option Request
request_of words = request_if (fault_of reduce_app words) (matches_of reduce_app words)

-- a usage error only if the words have no meaning; lack of memory for any words
abbrev pub RefusesWords : List Text → PlanFault → Type 0
RefusesWords words Usage = request_of words ≡ None
RefusesWords words OutOfMemory = Unit {0}

abbrev pub Plans : List Text → Result Request PlanFault → Type 0
Plans words r = MatchResult r (λ p. request_of words ≡ Some p) (RefusesWords words)

-- the request is that of the command line, or there is no command line
abbrev pub PlansFor : Result (List Text) PlanFault → Result Request PlanFault → Type 0
PlansFor (Ok words) r = Plans words r
PlansFor (Err e) r = r ≡ Err e

-- the matches are those that `clap` documents for the words, or the words are refused
pub record IsMatched (words : List Text) (m : ArgMatches) : Type 0 where
  pub passes : fault_of reduce_app words ≡ []
  pub rows : rows_of (found_of m) ≡ matches_of reduce_app words

abbrev pub Matches : List Text → Result ArgMatches PlanFault → Type 0
Matches words r = MatchResult r (IsMatched words) (RefusesWords words)

-- ---- plans of the code

abbrev pub request_in : Plan → Request
request_in p = record { claim = p.claim; file = option_map (λ s. s.now) p.file }

abbrev pub requested : Result Plan PlanFault → Result Request PlanFault
requested (Ok p) = Ok (request_in p)
requested (Err e) = Err e
