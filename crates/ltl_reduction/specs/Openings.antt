-- What `ltlreduce` opens for its command line.
use Rattle.std.specs.Prelude.{List, Result}
use Rattle.clap.specs.Words.{Text}
use Rattle.ltl_spec.specs.Tools.Outcome.{Input}
use Rattle.ltl_words.specs.declared.request.PlanFault.{PlanFault}
use Rattle.ltl_cli.specs.Openings.{Opening, Opens, automaton_opened}
use Rattle.ltl_reduction.specs.Plans.{PlansFor, Request, automaton_file}

-- The automaton's file was opened, if there is a request that names one, or else the standard input was taken; and nothing else
abbrev pub OpensFor : {F : Type 0} → (F → List Opening → Type 0) → (F → Text → Input → Type 0) → (F → Input → Type 0) → Result (List Text) PlanFault → F → F → Type 0
OpensFor Opened Stands Comes words old new = (request : Result Request PlanFault) × PlansFor words request × Opens Opened Stands Comes (automaton_opened (automaton_file request)) old new
