use Rattle.std.proofs.Common.{◌∙◌, [], ap, length, map, refl, rules, sym}
use Rattle.std.specs.Prelude.{slice_index_or}
use Rattle.std.proofs.lemmas.Result.{err_from_is_err_and}
use Rattle.ltl_spec.proofs.Collections.MemberLaws.{map_length}
use Rattle.ltl_streams.specs.Streams.{Breaks, Takes}
use Rattle.ltl_word.specs.Rows.{bit_of}
use Rattle.ltl_pictures.specs.Timeline.{greatest}
use Rattle.ltl_pictures.specs.TimelineView.{HasTrueMarks}
use Rattle.ltl_streams.proofs.PrintLaws.{lacks_all, lacks_last, lacks_step, printed_err, printed_ok}
use Rattle.ltl_pictures.proofs.TimelineLaws.{shown_err, shown_ok, shows_end, texts_width, whole_is}
use Rattle.ltl_pictures.proofs.timeline.timeline_to.Goals as goal

pub returns-in_err-propositions : goal.returns-in_err-propositions
returns-in_err-propositions g c = let p = err_from_is_err_and c.from_residual.result c.from_residual.ensures.1 in rw (p.1, p.2) refl

pub returns-in_err-subformulas : goal.returns-in_err-subformulas
returns-in_err-subformulas g c = let p = err_from_is_err_and c.from_residual-in_err-subformulas.result c.from_residual-in_err-subformulas.ensures.1 in rw (p.1, p.2) refl

pub returns : goal.returns
returns g c =
    let f = c.args.formula.now in
    let w = c.args.word.now in
    let s = c.in_ok-subformulas.subformulas in
    let names = map (λ n. n.now) c.in_ok-propositions.propositions.names.items in
    let texts = map (λ t. t.items) s.texts.items in
    let count = map_length (λ t. t.items) s.texts.items ∙ c.in_ok-subformulas.ensures.count in
    let wide = c.width-2.ensures ∙ ap (greatest (λ k. length (slice_index_or texts k []))) (sym (map_length (λ t. t.items) s.texts.items)) ∙ texts_width f texts count c.in_ok-subformulas.ensures.texts in
    let e = whole_is f w (λ k i. bit_of (slice_index_or s.rows.items k []) i) names c.max-width.result c.width.result c.width-2.result c.in_ok-propositions.ensures.names c.width.ensures wide c.max-width.ensures in
    let all = lacks_last (lacks_step (lacks_all _ _) _ e c.put.ensures) c.put-2.ensures in
    let whole = printed_ok c.new-out.ensures.whole c.new-out.ensures.empty c.new-out.ensures.now all _ c.end.ensures.ends (search rules) in
    let short = printed_err c.new-out.ensures.whole c.new-out.ensures.empty c.new-out.ensures.now all _ c.end.ensures.ends (search rules) in
    shows_end c.end.result _ _ _ (HasTrueMarks f w) c.ended.ensures (shown_ok f w s.rows.items c.in_ok-subformulas.ensures.rows (Takes _ _) _ whole) (shown_err f w s.rows.items c.in_ok-subformulas.ensures.rows (Breaks _ _) _ short)
