use Rattle.std.proofs.Common.{ap, map, refl}
use Rattle.ltl_cli.proofs.RunLaws.{shows_more}
use Rattle.ltl_tests.proofs.FixedLaws.{both_opened, reported}
use Rattle.ltl_tests.proofs.fixed.checked.Goals as goal

pub returns-clause-shown : goal.returns-clause-shown
returns-clause-shown g c = shows_more (λ seen h. reported (map (λ w. w.now) c.as_slice.result.now) (ap (λ ws. map (λ w. w.now) ws) c.as_slice.ensures) seen h) c.run-status.ensures.shown

pub returns-clause-opened : goal.returns-clause-opened
returns-clause-opened g c =
    both_opened (λ m. m.count) _ _ _ _ refl (map (λ w. w.now) c.as_slice.result.now) (ap (λ ws. map (λ w. w.now) ws) c.as_slice.ensures) _ c.run-status.ensures.opened
