use Rattle.std.proofs.Common.{rules, ◌≡◌, ◌∙◌, ap, sym, true, false}
use Rattle.std.specs.List.{list_any}
use Rattle.ltl_syntax.specs.ParserView.{is_bracket}
use Rattle.ltl_syntax.proofs.StateLemmas.{expects_close, expects_end}
use Rattle.ltl_syntax.proofs.parser.Parser.expected.Goals as goal

pub returns-then-has_bracket : goal.returns-then-has_bracket
returns-then-has_bracket g c =
    let has : c.self.inside.has_operand ≡ true = search rules in
    let found : list_any is_bracket c.self.inside.frames.items ≡ true = search rules in
    expects_close c.args.self.now (sym (ap (λ v. v.has_operand) c.self.view_is) ∙ has) (sym (ap (λ v. list_any is_bracket v.frames) c.self.view_is) ∙ found)

pub returns-else-has_bracket : goal.returns-else-has_bracket
returns-else-has_bracket g c =
    let has : c.self.inside.has_operand ≡ true = search rules in
    let found : list_any is_bracket c.self.inside.frames.items ≡ false = search rules in
    expects_end c.args.self.now (sym (ap (λ v. v.has_operand) c.self.view_is) ∙ has) (sym (ap (λ v. list_any is_bracket v.frames) c.self.view_is) ∙ found)
