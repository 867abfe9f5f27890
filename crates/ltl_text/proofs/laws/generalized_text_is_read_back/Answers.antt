use Rattle.ltl_text.proofs.BackLaws.{generalized_back, generalized_alike, generalized_models}
use Rattle.ltl_text.proofs.laws.generalized_text_is_read_back.Goals as goal

pub returns-clause-back : goal.returns-clause-back
returns-clause-back g c = generalized_back c.args.automaton.now c.args.formula.now c.invariant.ensures c.invariant-2.ensures c.requires.named c.requires.few

pub returns-clause-alike : goal.returns-clause-alike
returns-clause-alike g c = generalized_alike c.args.automaton.now c.args.formula.now c.invariant.ensures c.invariant-2.ensures c.requires.named c.requires.few

pub returns-clause-models : goal.returns-clause-models
returns-clause-models g c = generalized_models c.args.automaton.now c.args.formula.now c.invariant.ensures c.invariant-2.ensures c.requires.named c.requires.few
