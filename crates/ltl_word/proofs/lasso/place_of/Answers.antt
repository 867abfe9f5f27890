use Rattle.std.proofs.Common.{◌∙◌, sym, arith}
use Rattle.ltl_spec.proofs.Collections.CaseLaws.{false_is_true}
use Rattle.ltl_word.proofs.LetterLaws.{one_earlier, found_here}
use Rattle.ltl_word.proofs.lasso.place_of.Goals as goal

pub names-preserved : goal.names-preserved
names-preserved g c = record {
  within = let m = c.names-test.true in omega arith;
  earlier = one_earlier (λ n. n.items) c.args.names.now c.index-names-at.result c.names.at c.args.name.now c.names-test.true (sym c.index-names-at.is)
      (λ q. false_is_true (sym c.if-not-is_same.true ∙ c.is_same.ensures.1 (c.as_slice.ensures ∙ q))) c.names.invariant.earlier;
}

pub returns-else-not-is_same-clause-found : goal.returns-else-not-is_same-clause-found
returns-else-not-is_same-clause-found g c = λ l.
    found_here (λ n. n.items) c.args.names.now c.index-names-at.result c.names.at l (sym c.index-names-at.is) ∙ sym c.as_slice.ensures ∙ c.is_same.ensures.0 c.if-not-is_same.false
