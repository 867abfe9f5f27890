use Rattle.std.proofs.Common.{◌≤◌, ◌∙◌, ap, drop, length, subst, sym, take}
use Rattle.std.proofs.lemmas.List.Sums.{prefix_len-le-length}
use Rattle.ltl_passes.specs.Runs.{target_of}
use Rattle.ltl_passes.proofs.RunLaws.{leads, next_run, rest_falls, run_target}
use Rattle.ltl_passes.proofs.implied.least_of_runs.Goals as goal

pub split_at-requires : goal.split_at-requires
split_at-requires g c = subst (λ n. n ≤ length c.runs.rest.now) (sym c.run_len.ensures) (prefix_len-le-length (leads (target_of c.in-Some.first.now)) c.runs.rest.now)

pub put_least-requires : goal.put_least-requires
put_least-requires g c =
    let rest = c.runs.rest.now in
    run_target c.args.labels.now c.args.edges.now rest c.runs.kept.items c.runs.invariant c.in-Some.first.now c.in-Some.field-0-1.now c.split_at.result.0.now c.split_at.result.1.now c.in-Some.ensures.cases.0
    (c.split_at.ensures.front ∙ ap (λ n. take n rest) c.run_len.ensures) (c.split_at.ensures.back ∙ ap (λ n. drop n rest) c.run_len.ensures)

pub runs-preserved : goal.runs-preserved
runs-preserved g c =
    let rest = c.runs.rest.now in
    next_run c.args.labels.now c.args.edges.now rest c.runs.kept.items c.runs.invariant c.in-Some.first.now c.in-Some.field-0-1.now c.split_at.result.0.now c.split_at.result.1.now c.in-Some.ensures.cases.0
    (c.split_at.ensures.front ∙ ap (λ n. take n rest) c.run_len.ensures) (c.split_at.ensures.back ∙ ap (λ n. drop n rest) c.run_len.ensures) c.put_least.new.kept.items c.in_ok-put_least.ensures

pub runs-smaller : goal.runs-smaller
runs-smaller g c =
    let rest = c.runs.rest.now in
    rest_falls c.args.labels.now c.args.edges.now rest c.runs.kept.items c.runs.invariant c.in-Some.first.now c.in-Some.field-0-1.now c.split_at.result.0.now c.split_at.result.1.now c.in-Some.ensures.cases.0
    (c.split_at.ensures.front ∙ ap (λ n. take n rest) c.run_len.ensures) (c.split_at.ensures.back ∙ ap (λ n. drop n rest) c.run_len.ensures)
