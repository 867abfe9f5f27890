use Rattle.std.proofs.Common.{◌≡◌, arith, length, subst, sym}
use Rattle.ltl_passes.specs.Runs.{IsKept}
use Rattle.ltl_passes.proofs.RunLaws.{all_kept, sorted_kept, sorted_labels}
use Rattle.ltl_passes.proofs.implied.unimplied.Goals as goal

pub returns-then-len-clause-edges : goal.returns-then-len-clause-edges
returns-then-len-clause-edges g c =
    let kept = subst (λ es. IsKept c.args.labels.now es c.in_ok-kept.kept.items) c.as_slice-2.ensures.value c.in_ok-kept.ensures in
    let long : length c.in_ok-kept.kept.items ≡ length c.args.edges.items = omega (arith, c.in_ok-kept.kept.ok.0, c.args.edges.ok.0, c.len.ensures, c.len-2.ensures, c.if-len.true) in
    sym (all_kept c.args.labels.now c.args.edges.items c.in_ok-kept.kept.items kept long)

pub returns-clause-edges : goal.returns-clause-edges
returns-clause-edges g c =
    let kept = subst (λ es. IsKept c.args.labels.now es c.in_ok-kept.kept.items) c.as_slice-2.ensures.value c.in_ok-kept.ensures in
    sorted_kept c.args.labels.now c.args.edges.items c.in_ok-kept.kept.items kept c.requires.tables c.requires.coded c.requires.rising c.sort_dedup.new.items.items c.sort_dedup.ensures

pub returns-clause-coded : goal.returns-clause-coded
returns-clause-coded g c =
    let kept = subst (λ es. IsKept c.args.labels.now es c.in_ok-kept.kept.items) c.as_slice-2.ensures.value c.in_ok-kept.ensures in
    sorted_labels c.args.labels.now c.args.edges.items c.in_ok-kept.kept.items kept c.requires.coded c.sort_dedup.new.items.items c.sort_dedup.ensures
