use Rattle.ltl_claim.proofs.ReadLaws.{reach_fault}
use Rattle.ltl_claim.proofs.read.take_all.Goals as goal

pub returns-in-Some-2 : goal.returns-in-Some-2
returns-in-Some-2 g c =
    reach_fault (Unit {0}) c.args.text.now c.tokens.parser c.take.new.self c.tokens.current c.next_token-current-in-Some.result c.in-Some.token c.tokens.lexer c.next_token-current-in-Some.new.self c.in-Some.is
    c.next_token-current-in-Some.ensures c.is_colon.result c.is_colon.ensures c.tokens.invariant c.in_ok-kind.field-0 c.in-Some-2.kind c.in-Some-2.is c.in_ok-kind.ensures
