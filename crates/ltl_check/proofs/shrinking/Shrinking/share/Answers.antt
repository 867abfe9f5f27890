use Rattle.std.proofs.Common.{◌≡◌, ◌∙◌, ap, subst, Ok}
use Rattle.ltl_spec.specs.Hoa.HoaReading.{MarkedAutomaton}
use Rattle.ltl_spec.specs.Checking.Check.{MarkedAccepts}
use Rattle.ltl_hoa.specs.Printed.{marked_of}
use Rattle.ltl_check.proofs.WordLaws.{named_alike}
use Rattle.ltl_check.proofs.shrinking.Shrinking.share.Goals as goal

pub returns-clause-common : goal.returns-clause-common
returns-clause-common g c e =
    let same : marked_of c.new-second.result.ba.now c.new-second.result.formula.now.names ≡ marked_of c.args.self.now.ba.now c.args.self.now.formula.now.names = (λ i. marked_of (c.new-second.ensures.ba i) (c.new-second.ensures.formula i).names) in
    let first = c.accepts.ensures.accepted (c.in_ok-accepts.was ∙ ap Ok c.if-not-branch.false) in (
      c.accepts-2.ensures.accepted e,
      (named_alike c.args.self.now.ba.now c.args.self.now.formula.now.names c.invariant.ensures.no_sets c.args.word.now).0 (subst (λ (M : MarkedAutomaton). MarkedAccepts M c.args.word.now) same first),
    )
