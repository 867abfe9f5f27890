use Rattle.std.proofs.Common.{◌∙◌, ap, map}
use Rattle.ltl_automaton.specs.CodedEdges.{coded_edge_of}
use Rattle.ltl_automaton.specs.LabelTables.{met_of}
use Rattle.ltl_automaton.specs.SharedView.{Shared, automaton_of, with_state}
use Rattle.ltl_automaton.proofs.TableLaws.{built_coded, built_next, none_still}
use Rattle.ltl_automaton.proofs.coded_builder.CodedBuilderBuilderEdge.push_steps.Goals as goal

pub returns-clause-built : goal.returns-clause-built
returns-clause-built g c =
    let made = c.in_ok-coded.ensures in
    let pushed = c.in_ok-push.ensures.ok ∙ ap (λ (s : Shared). with_state (automaton_of s) c.args.accepting (map coded_edge_of c.in_ok-coded.coded.items)) made.states in
    built_next (met_of c.args.self.now) (met_of c.coded_edges.new.self) made.more (automaton_of c.args.self.now.states) (automaton_of c.push.new.self) c.args.accepting _ _ c.requires.ready.coded pushed made.edges.edges

pub returns-clause-ready : goal.returns-clause-ready
returns-clause-ready g c =
    let made = c.in_ok-coded.ensures in
    let pushed = c.in_ok-push.ensures.ok ∙ ap (λ (s : Shared). with_state (automaton_of s) c.args.accepting (map coded_edge_of c.in_ok-coded.coded.items)) made.states in
    record {
      coded = built_coded (met_of c.args.self.now) (met_of c.coded_edges.new.self) made.more (automaton_of c.args.self.now.states) (automaton_of c.push.new.self) c.args.accepting _ c.requires.ready.coded pushed made.edges.coded;
      none = none_still (met_of c.args.self.now) (met_of c.coded_edges.new.self) made.more c.requires.ready.none;
      once = made.once c.requires.ready.once;
    }
