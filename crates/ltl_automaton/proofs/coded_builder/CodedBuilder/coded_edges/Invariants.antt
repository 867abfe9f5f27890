use Rattle.std.proofs.Common.{◌≡◌, map}
use Rattle.std.specs.Prelude.{take}
use Rattle.ltl_automaton.specs.LabelTables.{AreMade, AreOnce, Extends, met_of}
use Rattle.ltl_automaton.specs.Net.{edges_to}
use Rattle.ltl_automaton.proofs.coded_builder.CodedBuilder.coded_edges.Given as goal

abbrev pub invariant-loop-i : goal.invariant-loop-i
invariant-loop-i g l = record {
  more : Extends (met_of l.initial.self) (met_of l.self);
  made : AreMade (met_of l.self) l.coded.items (edges_to (take l.i (map g.T.Step.move_of l.steps)) (take l.i l.targets));
  states : l.self.states ≡ l.initial.self.states;
  once : AreOnce (met_of l.initial.self) → AreOnce (met_of l.self);
}
