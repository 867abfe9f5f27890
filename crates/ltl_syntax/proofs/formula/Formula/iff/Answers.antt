use Rattle.std.proofs.lemmas.Result.{IfOk-weaker}
use Rattle.ltl_syntax.specs.FormulaView.{reading_of}
use Rattle.ltl_syntax.proofs.CombinationLaws.{is_equivalence}
use Rattle.ltl_syntax.proofs.formula.Formula.iff.Goals as goal

pub returns-clause-meaning : goal.returns-clause-meaning
returns-clause-meaning g c =
    IfOk-weaker c.combined.result _ _ (λ f e. is_equivalence (reading_of c.args.self.now) (reading_of c.args.other.now) (reading_of f) e) c.combined.ensures.combination
