use Rattle.std.proofs.Common.{arith, map}
use Rattle.ltl_spec.proofs.Collections.MemberLaws.{map_length}
use Rattle.ltl_pictures.proofs.TimelineLaws.{other_out, proposition_out}
use Rattle.ltl_pictures.proofs.subformulas.Subformulas.is_left_out.Goals as goal

pub returns-then-is_proposition : goal.returns-then-is_proposition
returns-then-is_proposition g c = proposition_out c.args.formula.now c.args.k c.node.result c.node.ensures.found c.is_proposition.result c.is_proposition.ensures c.if-is_proposition.true

pub returns : goal.returns
returns g c =
    let texts = c.args.self.now.texts.items in
    let long = map_length (λ t. t.items) texts in
    let count = c.requires.count in
    let l = c.requires.within in
    other_out c.args.formula.now c.args.k c.node.result c.node.ensures.found c.is_proposition.result c.is_proposition.ensures c.if-is_proposition.false
    (map (λ t. t.items) texts) c.requires.texts (omega (arith, long, count, l)) c.is_repeated.result c.is_repeated.ensures
