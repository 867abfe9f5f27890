use Rattle.std.proofs.Common.{◌∙◌, ap}
use Rattle.std.specs.List.{range_with_len}
use Rattle.ltl_automaton.specs.SharedView.{automaton_of}
use Rattle.ltl_passes.proofs.FinerLaws.{round_finer}
use Rattle.ltl_passes.proofs.partition.class_names.Goals as goal

pub refined-requires-clause-finer : goal.refined-requires-clause-finer
refined-requires-clause-finer g c = round_finer (automaton_of c.args.states.now) 0 c.in_ok-names.names.items (c.in_ok-names.ensures ∙ ap (range_with_len 0) c.len.ensures)
