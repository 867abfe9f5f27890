use Rattle.std.proofs.Common.{◌≡◌, ◌∙◌, sym, subst, cond, bit_or, List, ℕ}
use Rattle.std.specs.Bool.{Decides}
use Rattle.std.specs.Simd.Lanes.{zip2}
use Rattle.ltl_sets.specs.Words.{IsWords, Reaches}
use Rattle.ltl_sets.specs.WordLaws.{IsWords-or}
use Rattle.ltl_sets.proofs.LaneLaws.{chosen_first, chosen_second}
use Rattle.ltl_sets.proofs.CubeOrderLaws.{cmp_differing, own_sign}
use Rattle.ltl_sets.proofs.cube.cmp_at.Goals as goal
use Rattle.ltl_sets.proofs.cube.cmp_at.Goals.{then-is_mine, else-is_mine, then-has, else-has}

pub reaches-requires-clause-words : goal.reaches-requires-clause-words
reaches-requires-clause-words c =
    let own = c.requires.own in
    let their = c.requires.other in
    elim c.if-is_mine.branch [
      | then-is_mine w ↦ subst IsWords (sym w.lacking-is) (IsWords-or c.args.other_positive c.args.other_negative their.positive_words their.negative_words)
      | else-is_mine w ↦ subst IsWords (sym w.lacking-is) (IsWords-or c.args.positive c.args.negative own.positive_words own.negative_words)
    ]

pub returns : goal.returns
returns c =
    let ps = c.args.positive in
    let ns = c.args.negative in
    let qs = c.args.other_positive in
    let ms = c.args.other_negative in
    let own : c.if-has.own ≡ cond c.has.result ps ns =
    elim c.if-has.branch [
      | then-has w ↦ chosen_first c.has.result ps ns c.if-has.own w.if-has.true w.own-is
      | else-has w ↦ chosen_second c.has.result ps ns c.if-has.own w.if-has.false w.own-is
    ] in
    let lacking : c.if-is_mine.lacking ≡ cond c.has-is_mine.result (zip2 bit_or qs ms) (zip2 bit_or ps ns) =
    elim c.if-is_mine.branch [
      | then-is_mine w ↦ chosen_first c.has-is_mine.result (zip2 bit_or qs ms) (zip2 bit_or ps ns) c.if-is_mine.lacking w.if-is_mine.true w.lacking-is
      | else-is_mine w ↦ chosen_second c.has-is_mine.result (zip2 bit_or qs ms) (zip2 bit_or ps ns) c.if-is_mine.lacking w.if-is_mine.false w.lacking-is
    ] in
    c.list_order.ensures
    ∙ sym (cmp_differing ps ns qs ms c.requires.own c.requires.other c.args.p c.requires.first
    c.has.result c.has-is_mine.result c.reaches.result (sym c.has.ensures) (c.has-is_mine.ensures ∙ own_sign ps ns c.if-has.own c.args.p c.has.result own)
    (subst (λ (ws : List ℕ). Decides c.reaches.result (Reaches ws c.args.p)) lacking c.reaches.ensures))
