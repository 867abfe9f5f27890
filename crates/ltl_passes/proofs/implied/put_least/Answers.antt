use Rattle.std.proofs.Common.{◌≡◌, ◌++◌, ◌∙◌, List, map, subst}
use Rattle.std.specs.Prelude.{OnOk}
use Rattle.ltl_passes.specs.declared.implied.RunEdge as made
use Rattle.ltl_passes.specs.Runs.{code_of, target_of}
use Rattle.ltl_passes.proofs.RunLaws.{least_stay, one_stays}
use Rattle.ltl_passes.proofs.implied.put_least.Goals as goal

pub returns-then-run-lt2 : goal.returns-then-run-lt2
returns-then-run-lt2 g c =
    let left = one_stays c.args.run.now c.if-run-lt2.true in
    subst (λ (ks : List made.RunEdge). OnOk c.put_all.result (c.put_all.new.kept.items ≡ c.args.kept.now.items ++ map code_of ks)) left c.put_all.ensures

pub returns : goal.returns
returns g c =
    let left = c.as_slice.ensures.value ∙ least_stay (target_of c.args.first.now) c.args.run.now c.in_ok-left.left.items c.requires c.in_ok-left.ensures in
    subst (λ (ks : List made.RunEdge). OnOk c.put_all-2.result (c.put_all-2.new.kept.items ≡ c.args.kept.now.items ++ map code_of ks)) left c.put_all-2.ensures
