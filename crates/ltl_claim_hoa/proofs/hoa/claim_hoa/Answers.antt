use Rattle.ltl_claim_hoa.proofs.TextLaws.{whole_text}
use Rattle.ltl_claim_hoa.proofs.hoa.claim_hoa.Goals as goal

pub returns-clause-text : goal.returns-clause-text
returns-clause-text g c = λ P is.
    whole_text P c.is_ended-ends.result _ _ _ _ _ (c.is_ended-ends.ensures P is) c.in_ok-text.ensures.items (c.in_ok-put_head.ensures P is (c.is_ended-ends.ensures P is)) (c.in_ok-put_statements.ensures P is)
    (c.in_ok-put_last.ensures P is) c.in_ok-extend_from_slice.ensures.items
