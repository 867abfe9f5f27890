use Rattle.std.specs.Prelude.{Some}
use Rattle.std.proofs.lemmas.Result.{IfOk-weaker}
use Rattle.ltl_word.specs.declared.machine_word.Junction.TheVariants.{And, Or, Implies, Iff}
use Rattle.ltl_word.proofs.RowLaws.{junction_rows}
use Rattle.ltl_word.proofs.evaluation.binary_row.Goals as goal

pub returns-in-And : goal.returns-in-And
returns-in-And g c = rw c.in-And.is (junction_rows And c.args.word.now c.args.left.now c.args.right.now c.with.result c.with.ensures.long c.with.ensures.bits)

pub returns-in-Or : goal.returns-in-Or
returns-in-Or g c = rw c.in-Or.is (junction_rows Or c.args.word.now c.args.left.now c.args.right.now c.with-in-Or.result c.with-in-Or.ensures.long c.with-in-Or.ensures.bits)

pub returns-in-Implies : goal.returns-in-Implies
returns-in-Implies g c = rw c.in-Implies.is (junction_rows Implies c.args.word.now c.args.left.now c.args.right.now c.with-in-Implies.result c.with-in-Implies.ensures.long c.with-in-Implies.ensures.bits)

pub returns-in-Iff : goal.returns-in-Iff
returns-in-Iff g c = rw c.in-Iff.is (junction_rows Iff c.args.word.now c.args.left.now c.args.right.now c.with-in-Iff.result c.with-in-Iff.ensures.long c.with-in-Iff.ensures.bits)

pub returns-in-Until : goal.returns-in-Until
returns-in-Until g c = rw c.in-Until.is (IfOk-weaker c.going_row.result _ _ (λ bits u names F. u names (Some F)) c.going_row.ensures)

pub returns-in-Release : goal.returns-in-Release
returns-in-Release g c = rw c.in-Release.is (IfOk-weaker c.going_row-in-Release.result _ _ (λ bits u names F. u names (Some F)) c.going_row-in-Release.ensures)
