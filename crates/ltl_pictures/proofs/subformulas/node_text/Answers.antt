use Rattle.std.proofs.Common.{◌∙◌, length, subst}
use Rattle.std.proofs.lemmas.Result.{IfOk-weaker}
use Rattle.ltl_syntax.specs.FormulaView.{StandsAt}
use Rattle.ltl_pictures.proofs.TimelineLaws.{binary_node, constant_node, proposition_node, text_there, unary_node}
use Rattle.ltl_pictures.proofs.subformulas.node_text.Goals as goal

pub returns-in-Constant : goal.returns-in-Constant
returns-in-Constant g c =
    IfOk-weaker c.copied.result _ _ (λ t h. constant_node c.args.formula.now c.args.node t.items c.in-Constant.value _ c.in-Constant.is c.constant_text.ensures h) c.copied.ensures

pub returns-in-Proposition : goal.returns-in-Proposition
returns-in-Proposition g c =
    IfOk-weaker c.copied-in-Proposition.result _ _ (λ t h. proposition_node c.args.formula.now c.args.node t.items c.in-Proposition.p _ c.in-Proposition.is (c.as_bytes.ensures.value ∙ c.name.ensures) h) c.copied-in-Proposition.ensures

pub returns-in-Unary : goal.returns-in-Unary
returns-in-Unary g c =
    let f = c.args.formula.now in
    let stands = subst (StandsAt (length f.names) (length c.args.texts.now)) c.in-Unary.is c.requires.stands in
    let operand = c.as_slice.ensures.value ∙ text_there f (λ t. t.items) c.args.texts.now c.in-Unary.a c.index-texts-a.result c.requires.texts stands c.index-texts-a.is in
    IfOk-weaker c.unary_node.result _ _ (λ t h. unary_node f c.args.node t.items c.in-Unary.operator c.in-Unary.a _ c.in-Unary.is operand h) c.unary_node.ensures

pub returns-in-Binary : goal.returns-in-Binary
returns-in-Binary g c =
    let f = c.args.formula.now in
    let stands = subst (StandsAt (length f.names) (length c.args.texts.now)) c.in-Binary.is c.requires.stands in
    let left = c.as_slice-in-Binary.ensures.value ∙ text_there f (λ t. t.items) c.args.texts.now c.in-Binary.a c.index-texts-a-in-Binary.result c.requires.texts stands.0 c.index-texts-a-in-Binary.is in
    let right = c.as_slice-in-Binary-2.ensures.value ∙ text_there f (λ t. t.items) c.args.texts.now c.in-Binary.b c.index-texts-b.result c.requires.texts stands.1 c.index-texts-b.is in
    IfOk-weaker c.binary_node.result _ _ (λ t h. binary_node f c.args.node t.items c.in-Binary.operator c.in-Binary.a c.in-Binary.b _ _ c.in-Binary.is left right h) c.binary_node.ensures
