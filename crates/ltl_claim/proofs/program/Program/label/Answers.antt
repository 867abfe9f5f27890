use Rattle.std.proofs.Common.{◌≡◌, ◌∙◌, arith, ◌++◌, ◌∷◌, [], ap, sym, refl, map, false}
use Rattle.ltl_spec.specs.Claims.ClaimMachine as machine
use Rattle.ltl_claim.specs.ProgramView.{BuiltView, built_of, hole_of, label_of, link_of, step_of}
use Rattle.ltl_claim.proofs.ProgramLaws as laws
use Rattle.ltl_claim.proofs.program.Program.label.Goals as goal

pub returns : goal.returns
returns g c = λ names.
    let inside : BuiltView = record {
      steps = map step_of c.self.inside.guards.items;
      selections = c.self.inside.selections.items;
      hole = hole_of c.self.inside.hole;
      start = link_of c.self.inside.start;
      statements = c.self.inside.statements.items;
      labels = map (label_of (λ l. l.now)) c.self.inside.labels.entries;
      gotos = map (λ l. l.now) c.self.inside.gotos.items;
    } in
    let named : (v : BuiltView) → inside ≡ v → inside.labels ≡ v.labels = λ v e. ap (λ (u : BuiltView). u.labels) e in
    let fresh : machine.is_label c.args.name.now inside.labels ≡ false = ap (λ (v : BuiltView). machine.is_label c.args.name.now v.labels) c.self.view_is ∙ sym c.is_label.ensures ∙ c.if-is_label.false in
    ap (λ (v : BuiltView). machine.label_found c.args.name.now (built_of names v)) (sym c.self.view_is)
    ∙ laws.label_acts names inside c.args.name.now _ fresh (sym c.starts_with.ensures.value ∙ c.if-starts_with.false)
    (ap (map (label_of (λ l. l.now))) c.in_ok-insert.ensures.entries ∙ laws.label_last (λ l. l.now) _ (λ x y. refl) c.self.inside.labels.entries c.args.name _ fresh
    ∙ ap (λ n. inside.labels ++ record { name = c.args.name.now; statement = n } ∷ []) (c.len-next.ensures ∙ omega (arith, c.self.inside.statements.ok.0)))
