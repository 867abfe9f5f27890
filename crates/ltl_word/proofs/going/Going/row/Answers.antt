use Rattle.std.proofs.Common.{◌∙◌, ap, sym, true, false}
use Rattle.std.specs.Option.{option_map}
use Rattle.std.specs.Bool.{beq}
use Rattle.std.proofs.lemmas.Result.{IfOk-weaker}
use Rattle.ltl_word.specs.Rows.{left_at, right_at}
use Rattle.ltl_word.proofs.BackWords.{turn_false, turn_true, until_row}
use Rattle.ltl_word.proofs.going.Going.row.Goals as goal
use Rattle.ltl_spec.proofs.Collections.CaseLaws.{beq_true}

pub returns-then-get-self : goal.returns-then-get-self
returns-then-get-self g c =
    let left = left_at c.args.self.now.negated (option_map (λ b. b.now) c.args.self.now.left) in
    let right = right_at c.args.self.now.negated c.args.self.now.right.now in
    let negated = c.args.self.now.negated in
    until_row left right negated c.args.stem c.args.count false c.in_ok-row.row c.requires.cycle
    (turn_false left right negated c.args.stem c.args.count c.in_ok-row.row c.requires.cycle c.in_ok-row.ensures (sym c.get.ensures ∙ beq_true c.get.result negated c.if-get-self.true)) c.in_ok-row.ensures

pub returns : goal.returns
returns g c =
    let left = left_at c.args.self.now.negated (option_map (λ b. b.now) c.args.self.now.left) in
    let right = right_at c.args.self.now.negated c.args.self.now.right.now in
    let negated = c.args.self.now.negated in
    IfOk-weaker c.pass-2.result _ _ (λ bits h. until_row left right negated c.args.stem c.args.count true bits c.requires.cycle
    (turn_true left right negated c.args.stem c.args.count c.in_ok-row.row c.requires.cycle c.in_ok-row.ensures (ap (λ b. beq b negated) (sym c.get.ensures) ∙ c.if-get-self.false)) h) c.pass-2.ensures
