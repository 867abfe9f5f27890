use Rattle.std.proofs.Common.{◌∙◌, [], ap, arith, length, map, sym}
use Rattle.std.specs.Prelude.{slice_index_or}
use Rattle.ltl_pictures.proofs.TimelineLaws.{greatest_more, mapped_there}
use Rattle.ltl_pictures.proofs.subformulas.Subformulas.width.Goals as goal

pub loop-k-preserved : goal.loop-k-preserved
loop-k-preserved g c =
    let ts = c.args.self.now.texts.items in
    greatest_more (λ k. length (slice_index_or (map (λ t. t.items) ts) k [])) c.loop-k.k c.loop-k.width c.max-width.result _ c.loop-k.invariant
    (ap length (c.as_slice.ensures.value ∙ sym (mapped_there (λ t. t.items) ts c.loop-k.k c.index.result.now (omega arith) c.index.ensures))) c.max-width.ensures
