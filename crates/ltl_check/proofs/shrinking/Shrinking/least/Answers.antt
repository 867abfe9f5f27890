use Rattle.std.proofs.Common.{map}
use Rattle.ltl_check.proofs.ShrunkLaws.{least_is, least_short, least_verdict}
use Rattle.ltl_check.proofs.shrinking.Shrinking.least.Goals as goal

pub returns-clause-verdict : goal.returns-clause-verdict
returns-clause-verdict g c =
    least_verdict (g.F.Operand.automaton_of c.args.self.now.first.now) c.args.self.now.formula.now.names c.args.self.now.ba.now (map (λ n. n.now) c.args.self.now.names.now) c.args.self.now.old.items c.args.draft.now.letters.items c.args.draft.now.stem
    c.requires.needed c.requires.shrunk c.least.result c.in_ok-word.word c.invariant.ensures.word c.in_ok-word.ensures c.least.ensures

pub returns-clause-short : goal.returns-clause-short
returns-clause-short g c =
    least_short (g.F.Operand.automaton_of c.args.self.now.first.now) c.args.self.now.formula.now.names c.args.self.now.ba.now (map (λ n. n.now) c.args.self.now.names.now) c.args.self.now.old.items c.args.draft.now.letters.items c.args.draft.now.stem
    c.requires.needed c.requires.shrunk c.least.result c.in_ok-word.word c.invariant.ensures.word c.in_ok-word.ensures c.least.ensures

pub returns-clause-form : goal.returns-clause-form
returns-clause-form g c =
    least_is (g.F.Operand.automaton_of c.args.self.now.first.now) c.args.self.now.formula.now.names c.args.self.now.ba.now (map (λ n. n.now) c.args.self.now.names.now) c.args.self.now.old.items c.args.draft.now.letters.items c.args.draft.now.stem
    c.requires.needed c.requires.shrunk c.least.result c.in_ok-word.word c.invariant.ensures.word c.in_ok-word.ensures c.least.ensures
