use Rattle.std.proofs.Common.{◌≡◌, length, vec_len}
use Rattle.ltl_automaton.specs.SharedView.{automaton_of}
use Rattle.ltl_passes.specs.Worklist.{IsMerger}
use Rattle.ltl_passes.proofs.worklist.run.Given as goal

abbrev pub invariant-turns : goal.invariant-turns
invariant-turns g l = record { wide : vec_len l.queue.waiting ≡ length (automaton_of l.states).states; merger : IsMerger (automaton_of l.states) l.merger }
