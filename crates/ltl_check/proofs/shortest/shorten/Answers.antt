use Rattle.std.proofs.Common.{◌≡◌, ◌+◌, Ok, refl, sym, ap, ◌∙◌, arith}
use Rattle.ltl_check.specs.declared.shortest.Shorter.TheVariants.{Spent}
use Rattle.ltl_check.specs.declared.shortest.TheConstants.{SHORTENING_LIMIT, ONE_BASE_LIMIT}
use Rattle.ltl_check.specs.Looks.{graph_net}
use Rattle.ltl_check.proofs.ShortestLaws.{most_then, shortened_found, shortened_stays, shortened_there}
use Rattle.ltl_check.proofs.shortest.shorten.Goals as goal

pub returns-in-Found-clause-lasso : goal.returns-in-Found-clause-lasso
returns-in-Found-clause-lasso g c =
    shortened_found _ _ _ _ _ (c.len.result + c.len-2.result) SHORTENING_LIMIT ONE_BASE_LIMIT _ _ c.args.walk _ _ (ap (graph_net g.G.Graph) (sym c.of-plain.ensures)) (sym c.sets-sets.ensures) refl
    (let l = c.len.ensures in let m = c.len-2.ensures in omega arith) c.in-Found.is c.in_ok-shortest.ensures.found c.find_shorter.ensures.looked

pub returns-in-Nothing-clause-lasso : goal.returns-in-Nothing-clause-lasso
returns-in-Nothing-clause-lasso g c =
    shortened_stays _ _ _ _ _ (c.len.result + c.len-2.result) SHORTENING_LIMIT ONE_BASE_LIMIT _ _ c.args.walk _ (ap (graph_net g.G.Graph) (sym c.of-plain.ensures)) (sym c.sets-sets.ensures) refl
    (let l = c.len.ensures in let m = c.len-2.ensures in omega arith) c.in-Nothing.is c.in_ok-shortest.ensures.found c.find_shorter.ensures.looked c.requires.full

pub returns-in_err-short-clause-most : goal.returns-in_err-short-clause-most
returns-in_err-short-clause-most g c = most_then _ _ _ _ SHORTENING_LIMIT ONE_BASE_LIMIT c.find_shorter.ensures.looked c.shorten_there.ensures.most

pub returns : goal.returns
returns g c =
    let e : c.find_shorter.result ≡ Ok Spent = (let w = c.in_ok-shortest.was in let i = c.in-Spent.is in cc) in
    record {
      lasso = shortened_there _ _ _ _ _ _ _ _ SHORTENING_LIMIT ONE_BASE_LIMIT c.args.walk c.in_ok-short.short (ap (graph_net g.G.Graph) (sym c.of-plain.ensures)) (sym c.sets-sets.ensures) e c.find_shorter.ensures.looked c.in_ok-short.ensures.lasso;
      most = most_then _ _ _ _ SHORTENING_LIMIT ONE_BASE_LIMIT c.find_shorter.ensures.looked c.shorten_there.ensures.most;
      memory = tt;
    }
