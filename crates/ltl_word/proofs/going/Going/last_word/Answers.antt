use Rattle.std.proofs.Common.{◌*◌, ◌/◌, ◌%◌, arith}
use Rattle.std.specs.Option.{option_map}
use Rattle.ltl_word.specs.Rows.{left_at, right_at}
use Rattle.ltl_word.proofs.BackWords.{back_last}
use Rattle.ltl_word.proofs.going.Going.last_word.Goals as goal

pub returns : goal.returns
returns g c =
    back_last (left_at c.args.self.now.negated (option_map (λ b. b.now) c.args.self.now.left)) (right_at c.args.self.now.negated c.args.self.now.right.now) c.args.count (c.args.count / 64 * 64) (c.args.count % 64)
    c.left_word.result c.right_word.result c.with_bit-left.result c.with_bit-right.result c.until_word.result c.args.later (omega arith) (omega arith) c.left_word.ensures c.right_word.ensures
    c.with_bit-left.ensures.here c.with_bit-left.ensures.others c.with_bit-right.ensures.here c.with_bit-right.ensures.others c.until_word.ensures
