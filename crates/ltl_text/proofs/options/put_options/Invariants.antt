use Rattle.std.proofs.Common.{length, ◌<◌}
use Rattle.std.specs.Prelude.{All}
use Rattle.ltl_spec.specs.Collections.Sets.{IsRising}
use Rattle.ltl_spec.specs.Automata.Automaton.{state_at}
use Rattle.ltl_automaton.specs.CodedEdges.{edges_in}
use Rattle.ltl_models.specs.BaView.{target_at}
use Rattle.ltl_text.specs.Options.{option_text, options_text}
use Rattle.ltl_text.proofs.OptionLaws.{entries, place_cmp}
use Rattle.ltl_streams.proofs.PrintLaws.{Lacks}
use Rattle.ltl_text.proofs.options.put_options.Given as goal

abbrev pub invariant-options : goal.invariant-options
invariant-options g l = record {
  within : All (λ p. p < length l.edges.coded.now) l.rest;
  rising : IsRising (place_cmp (target_at (edges_in l.edges))) l.rest;
  text : Lacks g.S.ByteSink.state l.fn.output l.output
      (entries (target_at (edges_in l.edges)) (option_text l.automaton l.texts (edges_in l.edges)) l.rest)
      (options_text l.automaton l.texts (state_at l.automaton l.k));
}

abbrev pub decreases-options : goal.decreases-options
decreases-options g l = length l.rest
