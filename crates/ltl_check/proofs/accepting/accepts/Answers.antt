use Rattle.std.proofs.Common.{◌∙◌, arith}
use Rattle.ltl_check.specs.declared.place.Bases.TheVariants.{Every}
use Rattle.ltl_check.specs.WordView.{IsInside, word_net}
use Rattle.ltl_check.proofs.WordLaws.{shorter_accepts}
use Rattle.ltl_check.proofs.accepting.accepts.Goals as goal

pub returns-in-Found-clause-accepted : goal.returns-in-Found-clause-accepted
returns-in-Found-clause-accepted g c _ =
    let inside : IsInside (g.F.Operand.automaton_of c.args.automaton.now) = record {
      counted = c.invariant.ensures.counted;
      begins = c.invariant.ensures.begins;
      few_states = c.invariant.ensures.few_states;
      few_sets = c.invariant.ensures.few_sets;
      within = c.invariant.ensures.within;
    } in
    let are = c.in_ok-letters.ensures in
    let ls = c.new-product.ensures.letters ∙ c.as_slice.ensures.value in
    let st = c.new-product.ensures.stem ∙ c.stem_len.ensures.stem in
    let n = (λ i. word_net (g.F.Operand.automaton_of (c.of-plain.ensures i).automaton.now) (c.of-plain.ensures i).letters.now (c.of-plain.ensures i).stem) ∙ (λ i. word_net (g.F.Operand.automaton_of (c.new-product.ensures.automaton i)) (ls i) (st i)) in
    shorter_accepts (g.F.Operand.automaton_of c.args.automaton.now) c.args.word.now c.in_ok-letters.letters.items inside are (omega (arith, c.stem_len.ensures.cycle, c.stem_len.ensures.stem, are.long)) _ (record { sets = c.sets.result; bases = Every }) _ c.in_ok-_walk.field-0 c.in-Found._walk n c.sets.ensures
    c.in-Found.is c.in_ok-_walk.ensures.found
