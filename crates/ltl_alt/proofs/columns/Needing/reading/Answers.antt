use Rattle.std.proofs.Common.{◌∙◌, ap, sym}
use Rattle.std.specs.Ordering.{nat_cmp}
use Rattle.ltl_spec.specs.Collections.Sets.{has}
use Rattle.ltl_spec.specs.Transitions.Cubes.{literal_cmp}
use Rattle.ltl_alt.specs.Elements.{needs_of}
use Rattle.ltl_alt.proofs.ColumnLaws.{column_has}
use Rattle.ltl_alt.proofs.SupportLaws.{forbidden_names, letter_names, reads_negative, reads_positive}
use Rattle.ltl_alt.proofs.columns.Needing.reading.Goals as goal

pub returns-then-literal : goal.returns-then-literal
returns-then-literal g c = λ ps w j p found.
    let n = c.args.literal.proposition in
    column_has (λ p. needs_of p 0) ps c.args.self.now.positive c.column.result n w.positive c.column.ensures j p found
    ∙ ap (has nat_cmp n) (sym (letter_names p.cube))
    ∙ reads_positive p.cube n
    ∙ (λ i. has literal_cmp (record { proposition = n; positive = sym c.if-literal.true i }) p.cube)

pub returns-else-literal : goal.returns-else-literal
returns-else-literal g c = λ ps w j p found.
    let n = c.args.literal.proposition in
    column_has (λ p. needs_of p 1) ps c.args.self.now.negative c.column-else-literal.result n w.negative c.column-else-literal.ensures j p found
    ∙ ap (has nat_cmp n) (sym (forbidden_names p.cube))
    ∙ reads_negative p.cube n
    ∙ (λ i. has literal_cmp (record { proposition = n; positive = sym c.if-literal.false i }) p.cube)
