use Rattle.std.proofs.Common.{ap, reverse, ◌∙◌}
use Rattle.ltl_claim_hoa.proofs.LabelLaws.{label_written}
use Rattle.ltl_claim_hoa.proofs.label.put_label.Goals as goal

pub returns : goal.returns
returns g c = λ names k e.
    label_written names k c.as_slice.result.now _ _ (ap reverse c.as_slice.ensures.value ∙ c.in_ok-signs.ensures names k e) c.in_ok-put_back.ensures
