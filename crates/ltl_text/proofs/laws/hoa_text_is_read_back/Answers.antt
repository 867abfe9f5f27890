use Rattle.ltl_text.proofs.BackLaws.{hoa_back, hoa_alike, hoa_models}
use Rattle.ltl_text.proofs.laws.hoa_text_is_read_back.Goals as goal

pub returns-clause-back : goal.returns-clause-back
returns-clause-back g c = hoa_back c.args.automaton.now c.args.formula.now c.invariant.ensures c.invariant-2.ensures c.requires

pub returns-clause-alike : goal.returns-clause-alike
returns-clause-alike g c = hoa_alike c.args.automaton.now c.args.formula.now c.invariant.ensures c.invariant-2.ensures c.requires

pub returns-clause-models : goal.returns-clause-models
returns-clause-models g c = hoa_models c.args.automaton.now c.args.formula.now c.invariant.ensures c.invariant-2.ensures c.requires
