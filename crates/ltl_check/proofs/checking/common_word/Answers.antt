use Rattle.std.proofs.Common.{◌*◌, ◌≤◌, ◌<◌, length, sym, subst, arith}
use Rattle.std.specs.Prelude.{All}
use Rattle.ltl_check.specs.VerdictView.{level_pairs, chosen_pairs}
use Rattle.ltl_spec.specs.Checking.Check.{product_size}
use Rattle.ltl_check.proofs.NameLaws.{numbers_within}
use Rattle.ltl_check.proofs.PairSums.{steps_most, steps_least}
use Rattle.ltl_check.proofs.checking.common_word.Goals as goal

pub new-product-requires-clause-within : goal.new-product-requires-clause-within
new-product-requires-clause-within g c =
    let are = rw c.as_slice.ensures.value at c.in_ok-numbers.ensures.numbers in
    let few : length c.in_ok-names.names.items ≤ 256 = (let l = c.len.ensures in let t = c.if-len-gt-PROPOSITION_LIMIT.false in omega (arith, l, t)) in
    subst (λ ns. All (λ n. n < 256) ns) (sym c.as_slice-2.ensures.value)
    (numbers_within (g.F.Operand.automaton_of c.args.automaton.now).names c.args.formula.now.names c.in_ok-names.names.items c.in_ok-numbers.numbers.items 256 c.in_ok-names.ensures few c.in_ok-numbers.ensures.count are)

pub returns-clause-most : goal.returns-clause-most
returns-clause-most g c =
    let counted = rw c.new-product.ensures.first at c.new-product.result.inside.counted in
    let m = rw (c.new-product.ensures.first, c.new-product.ensures.second) at c.search_product.ensures.most in
    let v = rw (c.new-product.ensures.first, c.new-product.ensures.second) at c.in_ok-verdict.ensures.brief in (
      subst (λ n. n ≤ 2 * level_pairs (g.F.Operand.automaton_of c.args.automaton.now) c.args.ba.now) (sym c.looked.ensures)
          (steps_most (g.F.Operand.automaton_of c.args.automaton.now) c.args.ba.now counted c.new-steps.result.count c.search_product.new.steps.count m.0 c.new-steps.ensures m.1 m.2),
      v.0,
      v.1,
    )

pub returns-clause-least : goal.returns-clause-least
returns-clause-least g c e chosen reached =
    let l = (rw (c.new-product.ensures.first, c.new-product.ensures.second) at c.in_ok-verdict.ensures.least) e in
    let s = steps_least (chosen_pairs (g.F.Operand.automaton_of c.args.automaton.now) c.args.ba.now chosen (product_size (g.F.Operand.automaton_of c.args.automaton.now) c.args.formula.now.names c.args.ba.now)) c.new-steps.result.count c.search_product.new.steps.count l.0 c.new-steps.ensures l.1 (l.2 chosen reached) in
    rw c.looked.ensures s
