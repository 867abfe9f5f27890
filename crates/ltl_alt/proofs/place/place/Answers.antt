use Rattle.std.proofs.Common.{◌≡◌, ap, ◌∙◌, length}
use Rattle.std.specs.Prelude.{◌==◌}
use Rattle.std.specs.List.{position_or_len}
use Rattle.std.specs.Option.{unwrap_or}
use Rattle.ltl_alt.proofs.PlaceLaws.{unwrap_position, place_right}
use Rattle.ltl_alt.proofs.ElementaryLaws.{few_places}
use Rattle.ltl_alt.proofs.place.place.Goals as goal

pub returns-clause-place : goal.returns-clause-place
returns-clause-place g c =
    let xs = c.elementary-elementary.result.now in
    c.unwrap_or.ensures
    ∙ ap (λ o. unwrap_or o (length xs)) c.index_of.ensures
    ∙ unwrap_position (λ k. k == c.args.row) xs
    ∙ ap (position_or_len (λ k. k == c.args.row)) c.elementary-elementary.ensures
    ∙ place_right c.args.table.now c.args.row c.invariant.ensures c.requires

pub returns-clause-small : goal.returns-clause-small
returns-clause-small g c =
    let xs = c.elementary-elementary.result.now in
    let at : c.unwrap_or.result ≡ position_or_len (λ k. k == c.args.row) c.args.table.now.elementary =
    c.unwrap_or.ensures
    ∙ ap (λ o. unwrap_or o (length xs)) c.index_of.ensures
    ∙ unwrap_position (λ k. k == c.args.row) xs
    ∙ ap (position_or_len (λ k. k == c.args.row)) c.elementary-elementary.ensures in
    few_places c.args.table.now c.args.row c.unwrap_or.result c.invariant.ensures at
