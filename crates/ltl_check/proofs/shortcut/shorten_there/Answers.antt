use Rattle.std.proofs.Common.{◌≡◌, ◌+◌, Ok, refl, ap, ◌∙◌, arith}
use Rattle.ltl_check.specs.declared.place.Bases.TheVariants.{One}
use Rattle.ltl_check.specs.declared.shortest.TheConstants.{ONE_BASE_LIMIT}
use Rattle.ltl_check.specs.declared.shortcut.TheConstants.{PLANNING_LIMIT}
use Rattle.ltl_check.proofs.ShortestLaws.{looks_there, paths_most, searched_most, short_full, there_found, there_stays}
use Rattle.ltl_check.proofs.shortcut.shorten_there.Goals as goal

pub returns-in_err-found-clause-most : goal.returns-in_err-found-clause-most
returns-in_err-found-clause-most g c = paths_most _ _ _ ONE_BASE_LIMIT PLANNING_LIMIT c.plan.new.left _ _ c.plan.ensures (omega arith) refl c.planned.ensures.paid

pub returns-in_err-shorter-clause-most : goal.returns-in_err-shorter-clause-most
returns-in_err-shorter-clause-most g c = searched_most _ _ _ _ (looks_there _ _ _ _ _ ONE_BASE_LIMIT PLANNING_LIMIT c.plan.new.left _ _ c.plan.ensures (omega arith) refl c.planned.ensures.paid c.find_shorter.ensures.looked)

pub returns-in-Found-clause-lasso : goal.returns-in-Found-clause-lasso
returns-in-Found-clause-lasso g c =
    there_found _ (g.N.Numbered.net c.args.net.now) (record { sets = c.args.sets; bases = One c.index.result.now.state }) c.args.walk c.shorter_walk-short.result ONE_BASE_LIMIT _ _ (c.len.result + c.len-2.result)
    (looks_there _ _ _ _ _ ONE_BASE_LIMIT PLANNING_LIMIT c.plan.new.left _ _ c.plan.ensures (omega arith) refl c.planned.ensures.paid c.find_shorter.ensures.looked) (let l = c.len.ensures in let m = c.len-2.ensures in omega arith) c.shorter_walk-short.ensures.few
    c.index.result.now refl c.index.ensures _ c.in_ok-shorter.ensures.found _ c.in-Found.is

pub returns-in-Found-clause-most : goal.returns-in-Found-clause-most
returns-in-Found-clause-most g c = searched_most _ _ _ _ (looks_there _ _ _ _ _ ONE_BASE_LIMIT PLANNING_LIMIT c.plan.new.left _ _ c.plan.ensures (omega arith) refl c.planned.ensures.paid c.find_shorter.ensures.looked)

pub returns : goal.returns
returns g c =
    let w : c.find_shorter.result ≡ Ok c.in_ok-shorter.field-0 = c.in_ok-shorter.was in
    let h = looks_there _ _ _ _ _ ONE_BASE_LIMIT PLANNING_LIMIT c.plan.new.left _ _ c.plan.ensures (omega arith) refl c.planned.ensures.paid c.find_shorter.ensures.looked in
    record {
      lasso = there_stays _ (g.N.Numbered.net c.args.net.now) (record { sets = c.args.sets; bases = One c.index.result.now.state }) c.args.walk c.shorter_walk-short.result ONE_BASE_LIMIT _ _ (c.len.result + c.len-2.result)
          h (let l = c.len.ensures in let m = c.len-2.ensures in omega arith) c.shorter_walk-short.ensures.few
          c.index.result.now refl c.index.ensures _ c.in_ok-shorter.ensures.found c.in_default.not-Found (λ i. w ∙ ap Ok i)
          (short_full (g.N.Numbered.net c.args.net.now) c.args.sets c.args.walk c.shorter_walk-short.result _ c.shorter_walk-short.ensures.one c.requires.full c.in_ok-found.ensures.found);
      most = searched_most _ _ _ _ h;
    }
