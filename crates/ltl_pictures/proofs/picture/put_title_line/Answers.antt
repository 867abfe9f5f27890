use Rattle.std.proofs.Common.{Bor, List, ap, option_map, ℕ}
use Rattle.ltl_streams.proofs.PrintLaws.{lacks_all, lacks_last, lacks_step}
use Rattle.ltl_pictures.specs.DotText.{title_line}
use Rattle.ltl_pictures.proofs.picture.put_title_line.Goals as goal

pub returns-in-Some : goal.returns-in-Some
returns-in-Some g c =
    let e = ap (λ n. title_line (option_map (λ (s : Bor (List ℕ)). s.now) n)) c.in-Some.is in
    lacks_last (lacks_step (lacks_all _ _) _ e c.put_name.ensures) c.put.ensures
