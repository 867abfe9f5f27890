use Rattle.std.proofs.Common.{◌∙◌, sym, []}
use Rattle.ltl_check.proofs.WordLaws.{any_default, no_step}
use Rattle.ltl_check.proofs.word_product.WordProductGraph.at.Goals as goal

pub returns-then-not-allows-clause-found : goal.returns-then-not-allows-clause-found
returns-then-not-allows-clause-found g c =
    no_step (g.F.Operand.automaton_of c.args.self.now.automaton.now) c.args.self.now.letters.now c.args.self.now.stem c.args.s c.args.k c.cube.result _ c.cube.ensures
    (any_default c.args.self.now.letters.now c.args.s.position c.index-self-s.result [] c.requires.own.1) (sym c.allows.ensures ∙ c.if-not-allows.true)
