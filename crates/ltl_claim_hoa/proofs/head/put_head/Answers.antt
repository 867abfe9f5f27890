use Rattle.std.proofs.Common.{map, string_bytes}
use Rattle.ltl_claim_hoa.proofs.TextLaws.{head_written}
use Rattle.ltl_claim_hoa.proofs.head.put_head.Goals as goal

pub returns : goal.returns
returns g c = λ P is e.
    head_written P c.args.claim.now is c.state_count.result c.start.result (map string_bytes c.names.result.now) _ _ _ _ _ _ _ _ (c.state_count.ensures P is e) c.start.ensures c.names.ensures
    c.in_ok-extend_from_slice.ensures.items c.in_ok-put_number.ensures c.in_ok-extend_from_slice-2.ensures.items c.in_ok-put_number-2.ensures c.in_ok-push.ensures.items c.in_ok-put_names.ensures
    c.in_ok-extend_from_slice-3.ensures.items
