use Rattle.std.proofs.Common.{◌≡◌, sym, subst, arith}
use Rattle.std.specs.Prelude.{None}
use Rattle.ltl_hoa.specs.declared.place.Place.TheVariants as place
use Rattle.ltl_hoa.specs.StreamReaderView.{StreamReaderView}
use Rattle.ltl_hoa.specs.Reading.{IsEnded}
use Rattle.ltl_hoa.proofs.WholeLaws.{end_whole, end_answers}
use Rattle.ltl_hoa.proofs.stream_reader.StreamReader.answer.Goals as goal

pub finish-requires : goal.finish-requires
finish-requires g c =
    let w : StreamReaderView = record { given = c.self.inside.given; line = c.self.inside.line; lexer = c.self.inside.lexer; parser = c.self.inside.parser; fault = c.self.inside.fault } in
    let e : IsEnded w c.requires.0 = subst (λ x. IsEnded x c.requires.0) (sym c.self.view_is) c.requires.1 in
    let none : c.self.inside.fault ≡ None = subst (λ (x : StreamReaderView). x.fault ≡ None) (sym c.self.view_is) c.in-None.ensures.whole.0 in
    let end : c.self.inside.parser.place ≡ place.End = subst (λ (x : StreamReaderView). x.parser.place ≡ place.End) (sym c.self.view_is) c.in-None.ensures.whole.1 in
    (omega arith, end_whole w c.requires.0 e none end)

pub returns-in-None-clause-answers : goal.returns-in-None-clause-answers
returns-in-None-clause-answers g c = λ text a.
    let w : StreamReaderView = record { given = c.self.inside.given; line = c.self.inside.line; lexer = c.self.inside.lexer; parser = c.self.inside.parser; fault = c.self.inside.fault } in
    let e : IsEnded w text = subst (λ x. IsEnded x text) (sym c.self.view_is) a in
    let none : c.self.inside.fault ≡ None = subst (λ (x : StreamReaderView). x.fault ≡ None) (sym c.self.view_is) c.in-None.ensures.whole.0 in
    let end : c.self.inside.parser.place ≡ place.End = subst (λ (x : StreamReaderView). x.parser.place ≡ place.End) (sym c.self.view_is) c.in-None.ensures.whole.1 in
    end_answers w text c.finish.result e none end c.finish.ensures
