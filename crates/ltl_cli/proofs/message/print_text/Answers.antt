use Rattle.std.proofs.Common.{◌∙◌, append_assoc, refl, sym}
use Rattle.ltl_streams.proofs.PrintLaws.{lacks_all, lacks_last, lacks_step}
use Rattle.ltl_cli.specs.Messages.{number_text}
use Rattle.ltl_cli.specs.Refusals.{refusal_of}
use Rattle.ltl_words.specs.Tools.{tool_of}
use Rattle.ltl_cli.proofs.MessageLaws.{put_same}
use Rattle.ltl_cli.proofs.message.print_text.Goals as goal

pub returns : goal.returns
returns g c =
    let e = sym (put_same (tool_of c.args.tool) (refusal_of c.args.refusal) _ _ _ c.front.ensures.front c.number.ensures c.back.ensures.back) ∙ append_assoc c.front.result.now (number_text c.number.result) c.back.result.now in
    lacks_last (lacks_step (lacks_step (lacks_all _ _) _ e c.put.ensures) _ refl c.put_number.ensures) c.put-2.ensures
