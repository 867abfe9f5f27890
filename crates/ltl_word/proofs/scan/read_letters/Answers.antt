use Rattle.std.proofs.Common.{◌∙◌, ap, arith}
use Rattle.ltl_spec.proofs.Words.LassoTextLaws as machine
use Rattle.ltl_word.specs.WrittenView.{WrittenView, place_of}
use Rattle.ltl_word.proofs.ScanLaws.{bad_byte, bad_end, good_end}
use Rattle.ltl_word.proofs.scan.read_letters.Goals as goal

pub returns-in-None : goal.returns-in-None
returns-in-None g c =
    bad_byte c.args.text.now c.bytes.at c.bytes.place c.bytes.written _ c.in_ok-next.field-0 c.bytes-test.true c.bytes.invariant.run c.in_ok-next.ensures.next c.in-None.is

pub returns-then-is_finished : goal.returns-then-is_finished
returns-then-is_finished g c =
    good_end c.args.text.now c.bytes.at c.bytes.place c.bytes.written c.is_finished.result (let f = c.bytes-test.false in omega (arith, f)) c.bytes.invariant.run
    (λ t i. c.is_finished.ensures t i ∙ ap (λ (v : WrittenView). machine.is_finished (place_of t i c.bytes.place) v.in_cycle) c.written-2.view_is) c.if-is_finished.true

pub returns : goal.returns
returns g c =
    bad_end c.args.text.now c.bytes.at c.bytes.place c.bytes.written c.is_finished.result c.bytes.invariant.within (let f = c.bytes-test.false in omega (arith, f)) c.bytes.invariant.run
    (λ t i. c.is_finished.ensures t i ∙ ap (λ (v : WrittenView). machine.is_finished (place_of t i c.bytes.place) v.in_cycle) c.written-2.view_is) c.if-is_finished.false
