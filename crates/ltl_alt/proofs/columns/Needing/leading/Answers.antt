use Rattle.ltl_alt.proofs.ColumnLaws.{column_has}
use Rattle.ltl_alt.proofs.columns.Needing.leading.Goals as goal

pub returns-clause-pairs : goal.returns-clause-pairs
returns-clause-pairs g c = λ ps w. column_has (λ p. p.targets) ps c.args.self.now.targets c.column.result c.args.place w.targets c.column.ensures
