use Rattle.std.proofs.Common.{◌≡◌, ◌∙◌, ◌+◌, ◌++◌, ◌∷◌, [], ap, sym, subst}
use Rattle.ltl_hoa.specs.StreamReaderView.{StreamReaderView, line_behind}
use Rattle.ltl_hoa.specs.Reading.{IsAfter}
use Rattle.ltl_hoa.proofs.StreamReaderLaws.{lexed}
use Rattle.ltl_hoa.proofs.stream_reader.StreamReader.take.Goals as goal

pub returns-clause-exact : goal.returns-clause-exact
returns-clause-exact g c = λ text a.
    let v : StreamReaderView = record { given = c.self.inside.given + 1; line = c.self.inside.line; lexer = c.self.inside.lexer; parser = c.self.inside.parser; fault = c.self.inside.fault } in
    let w : StreamReaderView = c.lex.new.self in
    let lines : c.line_behind-self-inside.result ≡ line_behind c.self.inside.line c.args.byte =
    c.line_behind-self-inside.ensures ∙ ap (λ n. line_behind n c.args.byte) (ap (λ x. x.line) c.self-2.view_is ∙ c.in_ok-lex.ensures.line) in
    let after = lexed v w c.args.byte text c.self.inside.given w.given (subst (λ x. IsAfter x text) (sym c.self.view_is) a) c.in_ok-lex.ensures.exact c.in_ok-lex.ensures.given in
    subst (λ n. IsAfter (record { given = c.self-2.inside.given; line = n; lexer = c.self-2.inside.lexer; parser = c.self-2.inside.parser; fault = c.self-2.inside.fault }) (text ++ c.args.byte ∷ [])) (sym lines)
    (subst (λ x. IsAfter (record x { line = line_behind c.self.inside.line c.args.byte }) (text ++ c.args.byte ∷ [])) (sym c.self-2.view_is) after)
