use Rattle.std.proofs.Common.{ap, length, sym, ◌∙◌, ◌+◌, arith}
use Rattle.ltl_check.specs.WordView.{IsInside}
use Rattle.ltl_pictures.proofs.WalkLaws.{run_is, swapped}
use Rattle.ltl_pictures.proofs.run.accepting_run.Goals as goal

pub returns-clause-run : goal.returns-clause-run
returns-clause-run g c =
    let found = rw (c.as_slice.ensures.value, c.stem_len.ensures.stem) at c.searched.ensures.found in
    let none = rw (c.as_slice.ensures.value, c.stem_len.ensures.stem) at c.searched.ensures.none in
    let are = c.in_ok-letters.ensures in
    let inside : IsInside c.args.automaton.now = record {
      counted = c.invariant.ensures.counted;
      begins = c.invariant.ensures.begins;
      few_states = c.invariant.ensures.few_states;
      few_sets = c.invariant.ensures.few_sets;
      within = c.invariant.ensures.within;
    } in
    run_is c.args.automaton.now c.args.word.now c.in_ok-letters.letters.items inside are (omega (arith, c.stem_len.ensures.cycle, c.stem_len.ensures.stem, are.long)) (λ v. v.items) c.searched.result found none

pub searched-requires-clause-fits : goal.searched-requires-clause-fits
searched-requires-clause-fits g c =
    let are = c.in_ok-letters.ensures in
    swapped c.args.automaton.now.states _ c.len.result (c.args.automaton.now.sets + 1) _ (ap length c.as_slice.ensures.value ∙ are.long ∙ sym c.len.ensures) (c.is_too_large.ensures.fits c.if-is_too_large.false)
