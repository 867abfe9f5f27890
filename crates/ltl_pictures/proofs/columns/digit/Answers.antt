use Rattle.std.proofs.Common.{◌∙◌}
use Rattle.ltl_pictures.proofs.LineLaws.{digit_there, no_digit}
use Rattle.ltl_pictures.proofs.columns.digit.Goals as goal

pub returns-then-k-digits : goal.returns-then-k-digits
returns-then-k-digits c = digit_there c.as_slice-digits.result.now c.args.k c.args.i (c.as_slice-digits.ensures ∙ c.of-number.ensures) c.if-k-digits.true

pub returns-else-k-digits : goal.returns-else-k-digits
returns-else-k-digits c = no_digit c.as_slice-digits.result.now c.args.k c.args.i (c.as_slice-digits.ensures ∙ c.of-number.ensures) c.if-k-digits.false
