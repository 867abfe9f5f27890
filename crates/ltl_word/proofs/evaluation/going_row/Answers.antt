use Rattle.std.proofs.Common.{sym, subst}
use Rattle.std.specs.Option.{option_map}
use Rattle.std.proofs.lemmas.Result.{IfOk-weaker}
use Rattle.ltl_word.specs.Evaluation.{IsUntilRow}
use Rattle.ltl_word.proofs.RowLaws.{going_row_of}
use Rattle.ltl_word.proofs.evaluation.going_row.Goals as goal

pub returns : goal.returns
returns g c =
    let left = option_map (λ b. b.now) c.args.left in
    IfOk-weaker c.row.result _ _ (λ bits u names F G r q.
    going_row_of names c.args.word.now c.stem_len.result (sym c.stem_len.ensures.stem) c.stem_len.ensures.cycle c.args.negated F G left c.args.right.now bits r q
    (subst (λ n. IsUntilRow c.stem_len.result n c.args.negated left c.args.right.now bits) c.len.ensures u)) c.row.ensures
