use Rattle.ltl_pictures.proofs.NameLaws.{count_push}
use Rattle.ltl_pictures.proofs.TimelineLaws.{text_more}
use Rattle.ltl_pictures.proofs.subformulas.node_texts.Goals as goal

pub loop-k-preserved : goal.loop-k-preserved
loop-k-preserved g c =
    let old = c.loop-k.texts.items in
    let pushed = c.in_ok-push.ensures.items in
    record {
      count = count_push old c.in_ok-text.text _ c.loop-k.k pushed c.loop-k.invariant.count;
      texts = text_more c.args.formula.now (λ t. t.items) old _ c.in_ok-text.text c.node.result c.loop-k.k c.len-k-end.ensures.formula c.loop-k.invariant.texts c.loop-k.invariant.count c.node.ensures.found c.in_ok-text.ensures pushed;
    }
