use Rattle.std.proofs.Common.{◌≤◌, ◌<◌, ap, arith, length, sym}
use Rattle.ltl_spec.specs.Automata.ClaimText.{block, skip_state}
use Rattle.ltl_streams.proofs.PrintLaws.{prints_as, prints_then}
use Rattle.ltl_text.proofs.BlockLaws.{last_is, no_last}
use Rattle.ltl_text.proofs.claim.put_blocks.Goals as goal

pub returns-else-skip-len : goal.returns-else-skip-len
returns-else-skip-len g c =
    let le : length c.args.automaton.now.states ≤ skip_state c.args.automaton.now = omega (arith, c.skip_state-skip.ensures) in
    prints_as (sym (no_last c.args.automaton.now c.args.texts.now le)) c.put_others.ensures

pub returns-then-skip-len : goal.returns-then-skip-len
returns-then-skip-len g c =
    let lt : skip_state c.args.automaton.now < length c.args.automaton.now.states = omega (arith, c.skip_state-skip.ensures) in
    let last = prints_as (ap (block c.args.automaton.now c.args.texts.now) c.skip_state-skip.ensures) c.put_block.ensures in
    prints_as (sym (last_is c.args.automaton.now c.args.texts.now lt)) (prints_then c.put_others.ensures last)
