use Rattle.std.specs.Prelude.{None}
use Rattle.std.proofs.lemmas.Result.{IfOk-weaker}
use Rattle.ltl_word.proofs.evaluation.unary_row.Goals as goal

pub returns-in-Always : goal.returns-in-Always
returns-in-Always g c = rw c.in-Always.is (IfOk-weaker c.going_row.result _ _ (λ bits u names F. u names None F tt) c.going_row.ensures)

pub returns-in-Eventually : goal.returns-in-Eventually
returns-in-Eventually g c = rw c.in-Eventually.is (IfOk-weaker c.going_row-in-Eventually.result _ _ (λ bits u names F. u names None F tt) c.going_row-in-Eventually.ensures)
