use Rattle.std.proofs.Common.{◌∙◌, ◌++◌, ◌∷◌, [], ap, map}
use Rattle.ltl_claim.specs.ProgramView.{BuiltView, hole_of, label_of, link_of, step_of}
use Rattle.std.proofs.lemmas.List.{map-append}
use Rattle.ltl_claim.proofs.ProgramLaws.{goto_acts}
use Rattle.ltl_claim.proofs.program.Program.goto.Goals as goal

pub returns : goal.returns
returns g c =
    let inside : BuiltView = record {
      steps = map step_of c.self.inside.guards.items;
      selections = c.self.inside.selections.items;
      hole = hole_of c.self.inside.hole;
      start = link_of c.self.inside.start;
      statements = c.self.inside.statements.items;
      labels = map (label_of (λ l. l.now)) c.self.inside.labels.entries;
      gotos = map (λ l. l.now) c.self.inside.gotos.items;
    } in
    goto_acts c.args.inside c.args.name.now c.args.self.now _ c.jump.new.self c.jump.result
    (ap (λ gs. record inside { gotos = gs }) (ap (map (λ l. l.now)) c.in_ok-push.ensures.items ∙ map-append (λ l. l.now) c.self.inside.gotos.items (c.args.name ∷ []))
    ∙ ap (λ (v : BuiltView). record v { gotos = v.gotos ++ c.args.name.now ∷ [] }) c.self.view_is)
    c.jump.ensures
