-- What `ltlcompare` opens for its command line, in which order.
use Rattle.std.specs.Prelude.{◌≡◌, ◌⊎◌, ℕ, List, [], ◌++◌, Option, Some, None, Result, Ok, Err}
use Rattle.clap.specs.Words.{Text}
use Rattle.ltl_spec.specs.Tools.Comparer.{ComparerPlan}
use Rattle.ltl_spec.specs.Tools.Outcome.{Input}
use Rattle.ltl_spec.specs.Tools.Refusal.{OutOfMemory, status_of}
use Rattle.ltl_words.specs.Comparer.{pair_asked}
use Rattle.ltl_words.specs.declared.request.PlanFault.{PlanFault}
use Rattle.ltl_cli.specs.Openings.{Opening, Opens, formula_opened}

-- the files of both formulas, those that the command line names
abbrev pub pair_opened : Option ComparerPlan → List Opening
pair_opened None = []
pair_opened (Some p) = formula_opened p.first ++ formula_opened p.second

-- what the words ask for, if they could be had
abbrev pub pair_had : Result (List Text) PlanFault → Option ComparerPlan
pair_had (Ok words) = pair_asked words
pair_had (Err e) = None

-- The run on these words, with this status, opened the files that they name, or nothing where memory ran out for the command line
abbrev pub OpensFor : {F : Type 0} → (F → List Opening → Type 0) → (F → Text → Input → Type 0) → (F → Input → Type 0) → Result (List Text) PlanFault → F → F → ℕ → Type 0
OpensFor Opened Stands Comes words old new status = Opens Opened Stands Comes (pair_opened (pair_had words)) old new ⊎ Opens Opened Stands Comes [] old new × (status ≡ status_of OutOfMemory)
