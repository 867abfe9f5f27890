use Rattle.std.proofs.Common.{append_assoc, refl, rules}
use Rattle.std.specs.Prelude.{codes}
use Rattle.ltl_streams.proofs.PrintLaws.{lacks_all, lacks_last, lacks_step}
use Rattle.ltl_cli.specs.Refusals.{refusal_of}
use Rattle.ltl_cli.proofs.MessageLaws.{printed_told}
use Rattle.ltl_reduction.specs.Messages.{reduce_text}
use Rattle.ltl_reduction.proofs.MessageLaws.{line_long}
use Rattle.ltl_reduction.proofs.message.write.Goals as goal

pub returns : goal.returns
returns g c =
    let first = lacks_step (lacks_all _ _) _ (append_assoc (codes "ltlreduce: ") (reduce_text (refusal_of c.args.refusal)) (codes "\n")) c.put.ensures in
    let second = lacks_step first _ refl c.put_text.ensures in
    printed_told (line_long (refusal_of c.args.refusal)) c.new-out.ensures.whole c.new-out.ensures.empty c.new-out.ensures.now (lacks_last second c.put-2.ensures) _ c.end.ensures.ends (search rules)
