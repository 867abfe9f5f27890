use Rattle.std.proofs.Common.{ap, sym, subst, map, string_bytes, [], ◌∙◌, ◌<◌}
use Rattle.ltl_spec.proofs.Collections.MemberLaws.{at_map, map_length}
use Rattle.ltl_claim_hoa.proofs.TextLaws.{name_more}
use Rattle.ltl_claim_hoa.proofs.head.put_quoted.Goals as goal

pub names-preserved : goal.names-preserved
names-preserved g c =
    name_more (map string_bytes c.args.names.now) c.names.i c.as_bytes.result.now _ _ _ _ _ (subst (λ k. c.names.i < k) (sym (map_length string_bytes c.args.names.now)) c.names-test.true)
    (c.as_bytes.ensures.value ∙ sym (at_map string_bytes c.args.names.now c.names.i c.index-names-i.result [] c.names-test.true ∙ ap string_bytes (sym c.index-names-i.is)))
    c.names.invariant c.in_ok-extend_from_slice.ensures.items c.in_ok-extend_from_slice-2.ensures.items c.in_ok-push.ensures.items
