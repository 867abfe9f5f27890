use Rattle.std.proofs.Common.{◌∙◌, map, string_bytes, sym}
use Rattle.ltl_sets.specs.Literals.{literal_of}
use Rattle.ltl_streams.proofs.PrintLaws.{lacks_all, lacks_last, lacks_step, prints_as}
use Rattle.ltl_pictures.proofs.PutLaws.{mapped_at, negative_text, positive_text}
use Rattle.ltl_pictures.proofs.label.put_literal.Goals as goal

pub returns-then-literal : goal.returns-then-literal
returns-then-literal g c =
    let name = c.as_bytes-name.ensures.value ∙ sym (mapped_at string_bytes c.args.names.now c.index-names-literal.result c.args.literal.proposition c.requires c.index-names-literal.is) in
    prints_as (sym (positive_text (map string_bytes c.args.names.now) (literal_of c.args.literal) _ name c.if-literal.true)) c.put.ensures

pub returns-else-literal : goal.returns-else-literal
returns-else-literal g c =
    let name = c.as_bytes-name.ensures.value ∙ sym (mapped_at string_bytes c.args.names.now c.index-names-literal.result c.args.literal.proposition c.requires c.index-names-literal.is) in
    let e = negative_text (map string_bytes c.args.names.now) (literal_of c.args.literal) _ name c.if-literal.false in
    lacks_last (lacks_step (lacks_all _ _) _ e c.put-else-literal.ensures) c.put-else-literal-2.ensures
