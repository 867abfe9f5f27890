use Rattle.std.proofs.Common.{◌∙◌, ap, sym, map}
use Rattle.std.specs.Prelude.{Some}
use Rattle.ltl_spec.specs.Claims.ClaimMachine as machine
use Rattle.ltl_claim.specs.ProgramView.{BuiltView, built_of, hole_of, label_of, link_of, step_of, with_option}
use Rattle.ltl_claim.proofs.OpenLaws.{open_option_added}
use Rattle.ltl_claim.proofs.ProgramLaws.{option_view}
use Rattle.ltl_claim.proofs.program.Program.begin_option.Goals as goal

pub returns : goal.returns
returns g c = λ names.
    let inside : BuiltView = record {
      steps = map step_of c.self.inside.guards.items;
      selections = c.self.inside.selections.items;
      hole = hole_of c.self.inside.hole;
      start = link_of c.self.inside.start;
      statements = c.self.inside.statements.items;
      labels = map (label_of (λ l. l.now)) c.self.inside.labels.entries;
      gotos = map (λ l. l.now) c.self.inside.gotos.items;
    } in
    let i = c.in-Some.i in
    option_view names c.args.self.now c.args.option i c.requires (sym c.innermost.ensures ∙ c.in-Some.is)
    ∙ ap (λ (v : BuiltView). Some (built_of names (with_option i c.args.option v))) (sym c.self.view_is)
    ∙ (λ t. Some (built_of names (record inside { hole = machine.WithinOption i (sym c.in_ok-j.ensures.number t); statements = sym c.in_ok-j.ensures.added t })))

pub invariant_of-self-2 : goal.invariant_of-self-2
invariant_of-self-2 g c =
    (c.self.invariant.0, open_option_added _ c.in-Some.i c.self.inside.loops c.self.inside.selections.items c.self.inside.statements.items c.add_option.new.statements.items c.in_ok-j.ensures.added c.self.invariant.1)
