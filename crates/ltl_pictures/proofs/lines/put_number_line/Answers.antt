use Rattle.std.proofs.Common.{[], refl}
use Rattle.ltl_streams.proofs.PrintLaws.{lacks_all, lacks_last, lacks_step}
use Rattle.ltl_pictures.specs.Timeline.{digit}
use Rattle.ltl_pictures.proofs.LineLaws.{line_pieces}
use Rattle.ltl_pictures.proofs.lines.put_number_line.Goals as goal

pub returns : goal.returns
returns g c =
    let first = lacks_step (lacks_all _ _) _ (line_pieces c.args.width c.args.word.now [] (digit c.args.k)) c.put_label.ensures in
    let second = lacks_step first _ refl c.put_digits.ensures in
    lacks_last second c.put.ensures
