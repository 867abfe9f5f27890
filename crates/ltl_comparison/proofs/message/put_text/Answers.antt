use Rattle.std.proofs.Common.{◌++◌, ◌∙◌, ap}
use Rattle.ltl_spec.specs.Tools.Refusal.{Checker, refusal_text}
use Rattle.ltl_spec.specs.Tools.Limits.{stated_limits}
use Rattle.ltl_streams.proofs.PrintLaws.{prints_as, prints_then}
use Rattle.ltl_cli.specs.Refusals.{refusal_of}
use Rattle.ltl_comparison.specs.Refusals.{subject_in}
use Rattle.ltl_comparison.proofs.MessageLaws.{not_usage}
use Rattle.ltl_comparison.proofs.message.put_text.Goals as goal

pub returns-in-Usage : goal.returns-in-Usage
returns-in-Usage g c = rw c.in-Usage.is c.put.ensures

pub returns-in_default : goal.returns-in_default
returns-in_default g c =
    let r = c.args.refused in
    prints_as (ap (λ x. x ++ refusal_text stated_limits Checker (refusal_of r.refusal)) c.front.ensures ∙ not_usage (subject_in r.subject) r.refusal c.in_default.not-Usage)
    (prints_then c.put-in_default.ensures c.print_text.ensures)
