use Rattle.std.proofs.Common.{◌∙◌, ◌++◌, ap, codes, refl}
use Rattle.ltl_cli.specs.Refusals.{refusal_of}
use Rattle.ltl_c.proofs.LineLaws.{reduce_line}
use Rattle.ltl_c.proofs.message.reduce_line.Goals as goal

pub returns : goal.returns
returns c =
    reduce_line (refusal_of c.args.refusal) _ _ _ _ refl c.reduce_front.ensures.front c.number.ensures c.back.ensures.back _ _ _ _ _ (c.put.ensures ∙ ap (λ x. x ++ codes "ltlreduce: ") c.new-line.ensures) c.put-2.ensures
    c.put_number.ensures.put c.put-3.ensures c.put-4.ensures
