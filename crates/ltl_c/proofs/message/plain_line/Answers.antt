use Rattle.std.proofs.Common.{◌∙◌, ◌++◌, ap}
use Rattle.ltl_words.specs.Tools.{tool_of}
use Rattle.ltl_cli.specs.Refusals.{refusal_of}
use Rattle.ltl_c.proofs.LineLaws.{whole_line}
use Rattle.ltl_c.proofs.message.plain_line.Goals as goal

pub returns : goal.returns
returns c =
    whole_line (tool_of c.args.tool) (refusal_of c.args.refusal) _ _ _ _ c.name.ensures.name c.front.ensures.front c.number.ensures c.back.ensures.back _ _ _ _ _ (c.put.ensures ∙ ap (λ x. x ++ c.name.result.now) c.new-line.ensures) c.put-2.ensures c.put_number.ensures.put c.put-3.ensures
    c.put-4.ensures
