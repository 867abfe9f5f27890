use Rattle.std.proofs.Common.{◌∙◌, sym, []}
use Rattle.ltl_word.proofs.NumberLaws.{mapped_push}
use Rattle.ltl_word.proofs.least.copied.Goals as goal

pub loop-i-preserved : goal.loop-i-preserved
loop-i-preserved g c = record {
  copied = mapped_push [] (λ n. n.items) (λ n. n.items) c.loop-i.copied.items c.push.new.self.items _ c.args.names.now c.index-names-i.result c.loop-i.i c.in_ok-push.ensures.items c.loop-i.invariant.copied
      (c.in_ok-from_slice.ensures.ok ∙ c.as_slice.ensures) c.loop-i-test.true (sym c.index-names-i.is);
}
