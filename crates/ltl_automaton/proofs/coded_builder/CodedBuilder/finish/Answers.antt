use Rattle.ltl_automaton.specs.LabelTables.{met_of}
use Rattle.ltl_automaton.proofs.RelabelLaws.{lists_have_ranks, recoded, relabelled}
use Rattle.ltl_automaton.proofs.coded_builder.CodedBuilder.finish.Goals as goal

pub relabel-requires : goal.relabel-requires
relabel-requires g c = lists_have_ranks (met_of c.args.self) c.in_ok-ranks.ranks c.in_ok-ranks.ensures.ranks c.args.self.states c.invariant.ensures c.requires.coded

pub returns-clause-automaton : goal.returns-clause-automaton
returns-clause-automaton g c = relabelled (met_of c.args.self) c.in_ok-ranks.ranks c.in_ok-ranks.ensures.ranks c.args.self.states c.relabel.new.self c.relabel.ensures c.requires.coded

pub returns-clause-labels : goal.returns-clause-labels
returns-clause-labels g c = record {
  tables = c.in_ok-ranks.ensures.tables;
  coded = recoded (met_of c.args.self) c.in_ok-ranks.ranks c.in_ok-ranks.ensures.ranks c.args.self.states c.relabel.new.self c.relabel.ensures c.requires.coded;
}
