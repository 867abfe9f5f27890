use Rattle.std.proofs.Common.{◌<◌, ◌∙◌, arith, subst, sym}
use Rattle.std.proofs.lemmas.List.{length-set}
use Rattle.ltl_passes.specs.Runs.{target_at}
use Rattle.ltl_passes.proofs.RunLaws.{noted_next, noted_stay}
use Rattle.ltl_passes.proofs.implied.are_alike.Goals as goal

pub loop-place-preserved : goal.loop-place-preserved
loop-place-preserved c =
    let es = c.args.edges.now in
    let noted = c.loop-place.noted in
    let n = c.loop-place.place in
    let f = c.first_like-first.result in
    let wide = c.loop-place.invariant.wide in
    let inside = subst (λ m. target_at es n < m) (sym wide) (c.requires.within n _ c.loop-place-test.true) in
    record {
      wide = length-set noted (target_at es n) f ∙ wide;
      noted = noted_next c.args.labels.now es noted n f c.loop-place.invariant.noted inside c.first_like-first.ensures (c.weighs_like.ensures c.if-not-weighs_like.false);
    }

pub returns-clause-alike : goal.returns-clause-alike
returns-clause-alike c = λ _. noted_stay c.args.labels.now c.args.edges.now c.loop-place.noted (λ k l. c.loop-place.invariant.noted k (omega (arith, l, c.loop-place-test.false)))
