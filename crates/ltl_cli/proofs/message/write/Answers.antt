use Rattle.std.proofs.Common.{◌∙◌, append_assoc, refl, rules, sym}
use Rattle.std.specs.Prelude.{codes}
use Rattle.ltl_spec.specs.Tools.Limits.{stated_limits}
use Rattle.ltl_spec.specs.Tools.Refusal.{refusal_text}
use Rattle.ltl_streams.proofs.PrintLaws.{lacks_all, lacks_last, lacks_step}
use Rattle.ltl_cli.specs.Refusals.{refusal_of}
use Rattle.ltl_words.specs.Tools.{tool_of}
use Rattle.ltl_cli.proofs.MessageLaws.{line_long, line_same, printed_told}
use Rattle.ltl_cli.proofs.message.write.Goals as goal

pub returns : goal.returns
returns g c =
    let e = sym (line_same (tool_of c.args.tool) (refusal_of c.args.refusal) _ c.name.ensures.name) ∙ append_assoc c.name.result.now (refusal_text stated_limits (tool_of c.args.tool) (refusal_of c.args.refusal)) (codes "\n") in
    let first = lacks_step (lacks_all _ _) _ e c.put.ensures in
    let second = lacks_step first _ refl c.print_text.ensures in
    printed_told (line_long (tool_of c.args.tool) (refusal_of c.args.refusal)) c.new-out.ensures.whole c.new-out.ensures.empty c.new-out.ensures.now (lacks_last second c.put-2.ensures) _ c.end.ensures.ends (search rules)
