use Rattle.std.proofs.Common.{◌+◌, map, arith}
use Rattle.ltl_spec.specs.Checking.Check.{Violated}
use Rattle.ltl_check.specs.VerdictView.{IsVerdictOn}
use Rattle.ltl_check.specs.declared.shortest.TheConstants.{ONE_BASE_LIMIT, SHORTENING_LIMIT}
use Rattle.ltl_check.proofs.AlongLaws.{one_of}
use Rattle.ltl_check.proofs.VerdictLaws.{brief_word, no_longer}
use Rattle.ltl_check.proofs.checking.violated.Goals as goal

pub returns-clause-verdict : goal.returns-clause-verdict
returns-clause-verdict g c = one_of (λ w. IsVerdictOn (g.F.Operand.automaton_of c.args.product.now.first.now) c.args.formula.now.names c.args.product.now.second.now (Violated w)) c.shorter.result c.in_ok-shrunk.shrunk c.in_ok-first.first c.shorter.ensures.one c.in_ok-shrunk.ensures.verdict c.in_ok-first.ensures.verdict

pub returns-clause-short : goal.returns-clause-short
returns-clause-short g c =
    no_longer (g.F.Operand.automaton_of c.args.product.now.first.now) c.args.formula.now.names c.args.product.now.second.now c.args.product.now.numbers.now c.invariant.ensures c.invariant-2.ensures c.requires.named c.requires.numbers
    c.args.found.stem.items c.args.found.cycle.items c.requires.full (map (λ n. n.now) c.args.names.now) c.requires.names.all (c.len.result + c.len-2.result)
    (let a = c.len.ensures in let b = c.len-2.ensures in omega (arith, a, b)) c.shorter.result (let m = c.shorter.ensures.second in let l = c.in_ok-first.ensures.form in omega (arith, m, l))

pub returns-clause-most : goal.returns-clause-most
returns-clause-most g c =
    let l = c.in_ok-walk.ensures.lasso in (
      brief_word (g.F.Operand.automaton_of c.args.product.now.first.now) c.args.formula.now.names c.args.product.now.second.now c.args.product.now.numbers.now c.invariant.ensures c.invariant-2.ensures c.requires.named c.requires.numbers
          c.in_ok-walk.walk.stem.items c.in_ok-walk.walk.cycle.items l.0 c.new-looks.result.count c.shorten.new.looks.count SHORTENING_LIMIT ONE_BASE_LIMIT c.new-looks.ensures (omega arith) (l.2.0, l.2.1, l.2.2) c.shorten.ensures.most
          c.shorter.result (let m = c.shorter.ensures.first in let s = c.in_ok-shrunk.ensures.short in omega (arith, m, s)),
      c.shrunk_word.ensures.most,
    )

pub returns-clause-word : goal.returns-clause-word
returns-clause-word g c = λ e. absurd (cc)
