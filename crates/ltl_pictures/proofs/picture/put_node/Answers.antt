use Rattle.std.proofs.Common.{Bor, List, ap, option_map, refl, ℕ}
use Rattle.ltl_streams.proofs.PrintLaws.{lacks_all, lacks_last, lacks_step}
use Rattle.ltl_pictures.proofs.PutLaws.{named_node, plain_node}
use Rattle.ltl_pictures.proofs.picture.put_node.Goals as goal

pub returns-in-Some : goal.returns-in-Some
returns-in-Some g c =
    let is = ap (option_map (λ (s : Bor (List ℕ)). s.now)) c.in-Some.is in
    let e = named_node c.args.accepting c.args.red c.args.k _ c.in-Some.name.now _ is c.labelled_end.ensures in
    let first = lacks_step (lacks_all _ _) _ e c.put.ensures in
    let second = lacks_step first _ refl c.put_number.ensures in
    let third = lacks_step second _ refl c.put_label.ensures in
    lacks_last third c.put-in-Some.ensures

pub returns-in-None : goal.returns-in-None
returns-in-None g c =
    let is = ap (option_map (λ (s : Bor (List ℕ)). s.now)) c.in-None.is in
    let e = plain_node c.args.accepting c.args.red c.args.k _ _ is c.node_end.ensures in
    let first = lacks_step (lacks_all _ _) _ e c.put.ensures in
    let second = lacks_step first _ refl c.put_number.ensures in
    lacks_last second c.put-in-None.ensures
