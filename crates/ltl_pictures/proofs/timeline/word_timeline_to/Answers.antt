use Rattle.std.proofs.Common.{refl, rules, sym}
use Rattle.std.proofs.lemmas.Result.{err_from_is_err_and}
use Rattle.ltl_pictures.specs.Timeline.{word_timeline}
use Rattle.ltl_streams.proofs.PrintLaws.{printed_err, printed_ok, prints_as}
use Rattle.ltl_pictures.proofs.TimelineLaws.{shows_end, word_is}
use Rattle.ltl_pictures.proofs.timeline.word_timeline_to.Goals as goal

pub returns-in_err-propositions : goal.returns-in_err-propositions
returns-in_err-propositions g c = let p = err_from_is_err_and c.from_residual.result c.from_residual.ensures.1 in rw (p.1, p.2) refl

pub returns : goal.returns
returns g c =
    let e = word_is c.args.word.now _ _ c.in_ok-propositions.ensures.names c.width.ensures in
    let whole = printed_ok c.new-out.ensures.whole c.new-out.ensures.empty c.new-out.ensures.now (prints_as (sym e) c.put.ensures) _ c.end.ensures.ends (search rules) in
    let short = printed_err c.new-out.ensures.whole c.new-out.ensures.empty c.new-out.ensures.now (prints_as (sym e) c.put.ensures) _ c.end.ensures.ends (search rules) in
    shows_end c.end.result _ _ _ (λ P. P (word_timeline c.args.word.now)) c.ended.ensures whole short
