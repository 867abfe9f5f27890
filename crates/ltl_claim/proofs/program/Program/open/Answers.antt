use Rattle.std.proofs.Common.{◌≡◌, ◌∙◌, ◌+◌, arith, ◌++◌, ◌∷◌, [], ap, sym, map, length, Some}
use Rattle.ltl_claim.specs.ProgramView.{BuiltView, built_of, hole_of, label_of, link_of, loop_at, step_of, with_statement}
use Rattle.ltl_claim.proofs.OpenLaws.{few_open, one_opened, stated_inside}
use Rattle.ltl_claim.proofs.ProgramLaws as laws
use Rattle.ltl_claim.proofs.program.Program.open.Goals as goal

pub returns : goal.returns
returns g c = λ names.
    laws.opened_view names c.args.self.now c.args.loops
    ∙ ap (λ n. Some (built_of names (record (with_statement c.args.loops [] c.args.self.now) { selections = c.args.self.now.selections ++ n ∷ [] })))
    (ap (λ (v : BuiltView). length v.statements) (sym c.self.view_is) ∙ sym (c.len-i.ensures ∙ omega (arith, c.self.inside.statements.ok.0)))
    ∙ ap (λ (v : BuiltView). Some (built_of names (record v { selections = v.selections ++ c.len-i.result ∷ [] })))
    (sym (c.self-2.view_is ∙ c.in_ok-state.ensures ∙ ap (λ os. with_statement c.args.loops os c.args.self.now) c.new-options.ensures.items))
    ∙ ap (λ ns. Some (built_of names (record (let inside : BuiltView = record {
      steps = map step_of c.self-2.inside.guards.items;
      selections = c.self-2.inside.selections.items;
      hole = hole_of c.self-2.inside.hole;
      start = link_of c.self-2.inside.start;
      statements = c.self-2.inside.statements.items;
      labels = map (label_of (λ l. l.now)) c.self-2.inside.labels.entries;
      gotos = map (λ l. l.now) c.self-2.inside.gotos.items;
    } in inside) { selections = ns }))) (sym c.in_ok-push.ensures.items)

pub overflow_add-self : goal.overflow_add-self
overflow_add-self g c =
    let n = few_open c.self-2.inside.loops c.self-2.inside.selections.items c.self-2.inside.statements.items c.self-2.invariant.1 in
    omega (arith, n, c.loop_at.ensures.few, c.self-2.inside.selections.ok.0)

pub invariant_of-self-2 : goal.invariant_of-self-2
invariant_of-self-2 g c =
    let next : length c.args.self.now.statements ≡ c.len-i.result =
    ap (λ (v : BuiltView). length v.statements) (sym c.self.view_is) ∙ sym (c.len-i.ensures ∙ omega (arith, c.self.inside.statements.ok.0)) in (
      c.self-2.invariant.0,
      one_opened c.len-i.result c.self-2.inside.loops (c.self-2.inside.loops + c.loop_at.result) c.self-2.inside.selections.items c.push.new.self.items c.self-2.inside.statements.items c.in_ok-push.ensures.items
          (stated_inside c.args.loops _ c.args.self.now _ c.len-i.result next (c.self-2.view_is ∙ c.in_ok-state.ensures))
          (ap (λ n. c.self-2.inside.loops + n) (c.loop_at.ensures.exact ∙ ap (λ ss. loop_at ss c.len-i.result) c.deref.ensures.value)) c.self-2.invariant.1,
    )
