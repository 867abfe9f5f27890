use Rattle.std.proofs.Common.{rules, ◌≡◌, ◌∙◌, inl, inr, ap, sym, subst}
use Rattle.std.specs.Prelude.{None, Some}
use Rattle.ltl_spec.specs.Hoa.HoaFaultKind as spec
use Rattle.ltl_hoa.specs.declared.fault.HoaFaultKind.TheVariants as made
use Rattle.ltl_hoa.specs.StreamReaderView.{StreamReaderView}
use Rattle.ltl_hoa.specs.Reading.{IsEnded}
use Rattle.ltl_hoa.proofs.EndLaws.{end_kind, other_place}
use Rattle.ltl_hoa.proofs.WholeLaws.{end_refused}
use Rattle.ltl_hoa.proofs.stream_reader.StreamReader.refusal.Goals as goal

pub returns-in-Format-clause-refused : goal.returns-in-Format-clause-refused
returns-in-Format-clause-refused g c = λ text a.
    let w : StreamReaderView = record { given = c.self.inside.given; line = c.self.inside.line; lexer = c.self.inside.lexer; parser = c.self.inside.parser; fault = c.self.inside.fault } in
    let e : IsEnded w text = subst (λ x. IsEnded x text) (sym c.self.view_is) a in
    let none : c.self.inside.fault ≡ None = search rules in
    let kind : end_kind c.self.inside.parser.place ≡ Some spec.NotHoaVersion1 =
    elim c.in-Format.is [
      | inl p ↦ ap end_kind (sym c.place.ensures ∙ p)
      | inr p ↦ ap end_kind (sym c.place.ensures ∙ p)
    ] in
    end_refused w text made.NotHoaVersion1 e none kind

pub returns-in_default-place-clause-refused : goal.returns-in_default-place-clause-refused
returns-in_default-place-clause-refused g c = λ text a.
    let w : StreamReaderView = record { given = c.self.inside.given; line = c.self.inside.line; lexer = c.self.inside.lexer; parser = c.self.inside.parser; fault = c.self.inside.fault } in
    let e : IsEnded w text = subst (λ x. IsEnded x text) (sym c.self.view_is) a in
    let none : c.self.inside.fault ≡ None = search rules in
    let kind : end_kind c.self.inside.parser.place ≡ Some spec.BadToken =
    ap end_kind (sym c.place.ensures) ∙ other_place c.place.result c.in_default-place.not-Format c.in_default-place.not-Version c.in_default-place.not-End in
    end_refused w text made.BadToken e none kind
