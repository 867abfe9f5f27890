use Rattle.std.proofs.Common.{◌∙◌, ap, [], slice_index_or}
use Rattle.ltl_sets.specs.Literals.{literal_of}
use Rattle.ltl_streams.proofs.PrintLaws.{prints_as, prints_then}
use Rattle.ltl_text.proofs.TextLaws.{negative_text}
use Rattle.ltl_text.proofs.literal_texts.LiteralTexts.put_long.Goals as goal

pub returns-else-literal : goal.returns-else-literal
returns-else-literal g c =
    let name = c.as_bytes-name.ensures.value ∙ c.name.ensures ∙ ap (λ names. slice_index_or names c.args.literal.proposition []) c.self.view_is in
    let e = negative_text c.args.self.now (literal_of c.args.literal) _ name c.if-literal.false in
    prints_as e (prints_then c.put-else-literal.ensures c.put-else-literal-2.ensures)
