use Rattle.ltl_automaton.specs.Labels.{Tables}
use Rattle.ltl_automaton.specs.LabelTables.{met_of}
use Rattle.ltl_automaton.proofs.TableLaws.{ranked_tables}
use Rattle.ltl_automaton.proofs.coded_builder.CodedBuilder.ranks.Goals as goal

pub returns-clause-tables : goal.returns-clause-tables
returns-clause-tables g c =
    let tables : Tables = record { cubes = c.in_ok-cubes.cubes.sorted.items; marks = c.in_ok-marks.marks.sorted.items } in
    ranked_tables (met_of c.args.self.now) tables c.in_ok-cubes.ensures.sorted c.in_ok-marks.ensures.sorted c.requires.none
