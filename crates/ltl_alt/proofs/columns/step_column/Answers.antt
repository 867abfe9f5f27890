use Rattle.std.proofs.Common.{◌∙◌, subst, sym}
use Rattle.std.specs.List.{filter}
use Rattle.std.specs.Ordering.{nat_cmp}
use Rattle.ltl_spec.specs.Collections.Sets.{has, union}
use Rattle.ltl_alt.specs.Columns.{IsStepColumn}
use Rattle.ltl_alt.specs.Tests.{step_of}
use Rattle.ltl_alt.proofs.ColumnLaws.{both_column, either_column}
use Rattle.ltl_alt.proofs.columns.step_column.Goals as goal

pub returns-in-Always : goal.returns-in-Always
returns-in-Always g c = λ ps w. subst (λ s. IsStepColumn ps c.args.columns.now (step_of s) c.args.needing.now.all) (sym c.in-Always.is) w.all

pub returns-in-Reads : goal.returns-in-Reads
returns-in-Reads g c = λ ps w. subst (λ s. IsStepColumn ps c.args.columns.now (step_of s) c.reading.result) (sym c.in-Reads.is) (c.reading.ensures ps w)

pub returns-in-Leads : goal.returns-in-Leads
returns-in-Leads g c = λ ps w. subst (λ s. IsStepColumn ps c.args.columns.now (step_of s) c.leading.result) (sym c.in-Leads.is) (c.leading.ensures.pairs ps w)

pub returns-in-Both : goal.returns-in-Both
returns-in-Both g c = λ ps w.
    subst (λ s. IsStepColumn ps c.args.columns.now (step_of s) c.common.result) (sym c.in-Both.is)
    (both_column ps c.args.columns.now c.in-Both.i c.in-Both.j c.common.result
    (c.common.ensures ∙ (λ k. filter (λ n. has nat_cmp n (c.column_at-in-Both.ensures k)) (c.column_at.ensures k))))

pub returns-in-Either : goal.returns-in-Either
returns-in-Either g c = λ ps w.
    subst (λ s. IsStepColumn ps c.args.columns.now (step_of s) c.union.result) (sym c.in-Either.is)
    (either_column ps c.args.columns.now c.in-Either.i c.in-Either.j c.union.result
    (c.union.ensures ∙ (λ k. union nat_cmp (c.column_at-in-Either.ensures k) (c.column_at-in-Either-2.ensures k))))
