-- The command line of `ltlcompare`, as it is declared for `clap`, and what its words mean.
use Rattle.std.specs.Prelude.{◌≡◌, List, [], Option, Some, None, Result, MatchResult, codes}
use Rattle.clap.specs.Words.{App, Kinds, Row, Text, fault_of, first_of, found_of, matches_of, new_app, rows_of, with_rule}
use Rattle.clap.specs.declared.parser.matches.ArgMatches.{ArgMatches}
use Rattle.ltl_spec.specs.Tools.Outcome as spec
use Rattle.ltl_spec.specs.Tools.Comparer as tools
use Rattle.ltl_words.specs.Plans.{formula_word}
use Rattle.ltl_words.specs.Words.{formula_among, value_rule}
use Rattle.ltl_words.specs.declared.comparer.ComparerPlan.{ComparerPlan}
use Rattle.ltl_words.specs.declared.request.PlanFault.{PlanFault}
use Rattle.ltl_words.specs.declared.request.PlanFault.TheVariants.{Usage, OutOfMemory}

-- `-f formula`, `-F file`, `-g formula` and `-G file`
abbrev pub comparer_app : App
comparer_app =
    with_rule (with_rule (with_rule (with_rule (new_app (codes "ltlcompare")) (value_rule (codes "f") 102)) (value_rule (codes "F") 70)) (value_rule (codes "g") 103))
    (value_rule (codes "G") 71)

-- both formulas
abbrev pub pair_of : Option spec.FormulaWord → Option spec.FormulaWord → Option tools.ComparerPlan
pair_of (Some first) (Some second) = Some (record { first = first; second = second })
pair_of _ _ = None

-- exactly one of `-f` and `-F`, and exactly one of `-g` and `-G`
abbrev pub pair_of_rows : List Row → Option tools.ComparerPlan
pair_of_rows rows =
    pair_of (formula_among (first_of (codes "f") rows) (first_of (codes "F") rows)) (formula_among (first_of (codes "g") rows) (first_of (codes "G") rows))

abbrev pub pair_if : Kinds → List Row → Option tools.ComparerPlan
pair_if [] rows = pair_of_rows rows
pair_if _ rows = None

-- what the words ask for, of which the first is the program's name; none where they are usage
abbrev pub pair_asked : List Text → Option tools.ComparerPlan
pair_asked words = pair_if (fault_of comparer_app words) (matches_of comparer_app words)

-- ---- plans of the code

abbrev pub pair_planned : ComparerPlan → tools.ComparerPlan
pair_planned p = record { first = formula_word p.first; second = formula_word p.second }

-- usage only where the words mean nothing; memory may be refused for any words
abbrev pub RefusesPair : List Text → PlanFault → Type 0
RefusesPair words Usage = pair_asked words ≡ None
RefusesPair words OutOfMemory = Unit {0}

abbrev pub ComparerPlans : List Text → Result ComparerPlan PlanFault → Type 0
ComparerPlans words r = MatchResult r (λ p. pair_asked words ≡ Some (pair_planned p)) (RefusesPair words)

-- the matches are those that the library gives the words, or the words are refused
pub record IsComparerMatched (words : List Text) (m : ArgMatches) : Type 0 where
  pub passes : fault_of comparer_app words ≡ []
  pub rows : rows_of (found_of m) ≡ matches_of comparer_app words

abbrev pub ComparerMatches : List Text → Result ArgMatches PlanFault → Type 0
ComparerMatches words r = MatchResult r (IsComparerMatched words) (RefusesPair words)
