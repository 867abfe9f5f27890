use Rattle.std.proofs.Common.{sym, map, []}
use Rattle.ltl_word.specs.LassoView.{letter_of}
use Rattle.ltl_word.proofs.NumberLaws.{mapped_push}
use Rattle.ltl_word.proofs.numbered.letters_at.Goals as goal

pub loop-i-preserved : goal.loop-i-preserved
loop-i-preserved g c = record {
  letters = mapped_push [] (λ a. map (λ n. n.now) a.items) (letter_of (map (λ n. n.now) c.args.names.now)) c.loop-i.letters.items c.push.new.self.items c.in_ok-names_at.field-0 c.args.rows.now c.index-rows-i.result c.loop-i.i
      c.in_ok-push.ensures.items c.loop-i.invariant.letters c.in_ok-names_at.ensures c.loop-i-test.true (sym c.index-rows-i.is);
}
