use Rattle.std.proofs.Common.{◌++◌, ap, refl, sym}
use Rattle.std.specs.Prelude.{codes}
use Rattle.std.specs.Fmt.{decimal}
use Rattle.ltl_streams.proofs.PrintLaws.{lacks_all, lacks_last, lacks_step}
use Rattle.ltl_pictures.specs.DotText.{acceptance_name, title_line}
use Rattle.ltl_pictures.specs.NamedAutomaton.{NamedAutomaton}
use Rattle.ltl_pictures.proofs.PutLaws.{head_pieces, name_end}
use Rattle.ltl_pictures.proofs.picture.put_head.Goals as goal

pub returns : goal.returns
returns g c =
    let N : NamedAutomaton = record { automaton = c.args.automaton.now; names = c.args.names.now } in
    let rest = c.args.note.now ++ (name_end ++ (decimal c.args.automaton.now.start ++ codes "\n")) in
    let first = lacks_step (lacks_all _ _) _ (head_pieces N c.args.note.now) c.put.ensures in
    let second = lacks_step first _ (ap (λ t. title_line t ++ (acceptance_name c.args.automaton.now.sets ++ rest)) (sym c.automaton.ensures)) c.put_title_line.ensures in
    let third = lacks_step second _ (ap (λ n. acceptance_name n ++ rest) (sym c.sets.ensures)) c.put_acceptance_name.ensures in
    let fourth = lacks_step third _ refl c.put-2.ensures in
    let fifth = lacks_step fourth _ refl c.put-3.ensures in
    let sixth = lacks_step fifth _ (ap (λ n. decimal n ++ codes "\n") (sym c.start.ensures)) c.put_number.ensures in
    lacks_last sixth c.put-4.ensures
