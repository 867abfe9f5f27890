use Rattle.std.proofs.Common.{map}
use Rattle.ltl_word.proofs.WordLaws.{word_is, spelled_is, few_is}
use Rattle.ltl_word.proofs.lasso.Lasso.invariant.Goals as goal

pub returns-clause-word : goal.returns-clause-word
returns-clause-word g c = word_is (map (λ n. n.items) c.self.inside.names.items) c.self.inside.letters.items c.self.inside.stem c.self.invariant c.args.self.now c.self.view_is

pub returns-clause-spelled : goal.returns-clause-spelled
returns-clause-spelled g c = spelled_is (map (λ n. n.items) c.self.inside.names.items) c.self.inside.letters.items c.self.inside.stem c.self.invariant c.args.self.now c.self.view_is

pub returns-clause-few : goal.returns-clause-few
returns-clause-few g c = few_is (map (λ n. n.items) c.self.inside.names.items) c.self.inside.letters.items c.self.inside.stem c.self.invariant c.args.self.now c.self.view_is
