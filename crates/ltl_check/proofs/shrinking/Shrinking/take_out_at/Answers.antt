use Rattle.std.proofs.Common.{arith}
use Rattle.ltl_check.proofs.ShrunkLaws.{bare_is, no_more_with, of_bare, of_letter, with_long}
use Rattle.ltl_check.proofs.shrinking.Shrinking.take_out_at.Goals as goal

pub put_short-requires-clause-candidate : goal.put_short-requires-clause-candidate
put_short-requires-clause-candidate g c =
    let l = c.requires.inside in
    let m = c.loop-p.invariant.long in
    no_more_with c.args.self.now.old.items c.loop-p.draft.letters.items c.in_ok-candidate.candidate.letters.items c.args.at c.without.result (omega (arith, l, m))
    (of_bare c.args.self.now.old.items c.index.result.now c.without.result c.loop-p.p
    (of_letter c.args.self.now.old.items c.loop-p.draft.letters.items c.args.at c.index.result.now c.loop-p.invariant.shrunk.kept (omega (arith, l, m)) c.index.ensures)
    (bare_is c.loop-p.p c.index.result.now c.single.result c.without.result c.single.ensures c.without.ensures))
    c.loop-p.invariant.shrunk.kept c.in_ok-candidate.ensures.letters

pub put_short-requires-clause-same : goal.put_short-requires-clause-same
put_short-requires-clause-same g c =
    let l = c.requires.inside in
    let m = c.loop-p.invariant.long in
    with_long c.loop-p.draft.letters.items c.in_ok-candidate.candidate.letters.items c.args.at c.without.result (omega (arith, l, m)) c.in_ok-candidate.ensures.letters
