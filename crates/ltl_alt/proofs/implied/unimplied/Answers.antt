use Rattle.std.proofs.Common.{◌∙◌, ap, not, subst}
use Rattle.std.specs.List.{filter}
use Rattle.ltl_alt.specs.TransitionView.{AreUpTo, is_heavy, is_implied}
use Rattle.ltl_alt.proofs.ImpliedLaws.{left_by_lighter}
use Rattle.ltl_alt.proofs.implied.unimplied.Goals as goal

pub returns : goal.returns
returns g c =
    let most = c.heaviest-most.result in
    left_by_lighter c.args.transitions.items c.in_ok-lighter.lighter.items c.in_ok-kept.kept.items most c.requires (subst (AreUpTo most) c.as_slice.ensures.value c.heaviest-most.ensures)
    (c.in_ok-lighter.ensures ∙ ap (filter (λ t. not (is_heavy most t))) c.as_slice-2.ensures.value)
    (c.in_ok-kept.ensures ∙ (λ i. filter (λ t. not (is_implied (c.as_slice-3.ensures.value i) t)) (c.as_slice-4.ensures.value i)))
