use Rattle.std.proofs.Common.{◌∙◌, ap, sym, refl, map, List}
use Rattle.ltl_spec.specs.Collections.Lists.{place_of, with_new}
use Rattle.ltl_spec.specs.Formulas.Tokens.{same_name}
use Rattle.ltl_spec.specs.Semantics.Word.{Name}
use Rattle.ltl_syntax.specs.ParserView.{ParserView}
use Rattle.ltl_syntax.proofs.NameLemmas.{keys_inserted, same_place, place_new}
use Rattle.ltl_syntax.proofs.parser.Parser.number.Goals as goal

pub returns-clause-number : goal.returns-clause-number
returns-clause-number g c =
    c.in_ok-number.ensures.index ∙ same_place (λ k. k.now) _ (λ x y. refl) c.args.name c.self.inside.names.keys
    ∙ sym (place_new (map (λ k. k.now) c.self.inside.names.keys) c.args.name.now)
    ∙ ap (place_of same_name c.args.name.now) (sym (ap (map (λ k. k.now)) c.in_ok-number.ensures.keys ∙ keys_inserted (λ k. k.now) _ (λ x y. refl) c.self.inside.names.keys c.args.name))

pub returns-clause-after : goal.returns-clause-after
returns-clause-after g c =
    let after = ap (map (λ k. k.now)) c.in_ok-number.ensures.keys ∙ keys_inserted (λ k. k.now) _ (λ x y. refl) c.self.inside.names.keys c.args.name in
    let With : List Name → ParserView → ParserView = λ names v. record v { names = names } in
    let inside : ParserView = record { nodes = c.self.inside.nodes.items; frames = c.self.inside.frames.items; names = map (λ k. k.now) c.self.inside.names.keys; has_operand = c.self.inside.has_operand } in
    let New : ParserView → ParserView = λ v. record v { names = with_new same_name v.names c.args.name.now } in
    ap (λ l. With l inside) after
    ∙ ap New c.self.view_is
