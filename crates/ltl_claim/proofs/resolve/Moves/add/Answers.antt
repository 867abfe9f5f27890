use Rattle.std.proofs.Common.{◌≡◌, ◌∙◌, ap, sym, subst, ℕ, length, List, map}
use Rattle.ltl_spec.specs.Semantics.Word.{Name}
use Rattle.ltl_spec.specs.Claims.ClaimProgram.{Program}
use Rattle.ltl_spec.specs.Claims.ClaimMeaning.{end}
use Rattle.ltl_claim.specs.ProgramView.{OptionView, first_kind, link_of, step_of}
use Rattle.ltl_claim.specs.ResolveView.{IsProgramOf, MovesView, WaysView}
use Rattle.ltl_claim.proofs.AddLaws.{adds_both, adds_check, adds_leap, adds_otherwise, adds_test, at_option}
use Rattle.ltl_claim.proofs.WayLaws.{end_is}
use Rattle.ltl_claim.proofs.resolve.Moves.add.Goals as goal

program_of_parts : (P : Program) (names : List Name) (w : WaysView) (m : MovesView) → ◌≡◌ {A = MovesView} (record { names = names; ways = w }) m → IsProgramOf P m.ways → IsProgramOf P w
program_of_parts P names w m e p = subst (IsProgramOf P) (sym (ap (λ (n : MovesView). n.ways) e)) p

same_names : (names : List Name) (w : WaysView) (m : MovesView) → ◌≡◌ {A = MovesView} (record { names = names; ways = w }) m → names ≡ m.names
same_names names w m e = ap (λ (n : MovesView). n.names) e

end_of : (P : Program) (w : WaysView) (n : ℕ) → IsProgramOf P w → n ≡ length w.statements → n ≡ end P
end_of P w n p e = e ∙ end_is P w.statements w.labels p.parts

pub returns-in_ok-push-in-Test : goal.returns-in_ok-push-in-Test
returns-in_ok-push-in-Test g c = λ P p s.
    let names : List Name = map (λ k. k.now) c.self.inside.names.now.keys in
    let q = program_of_parts P names c.self.inside.ways c.args.self.now c.self.view_is p in
    let o : OptionView = record { kind = first_kind c.option.inside.first; steps = map step_of c.option.inside.guards.items; next = link_of c.option.inside.next } in
    at_option P names c.args.self.now.names c.args.i o c.index-options-j.result c.args.moves.now.items c.push.new.self.items c.args.options.now c.args.j
    (same_names names c.self.inside.ways c.args.self.now c.self.view_is) c.option.view_is c.index-options-j.is c.requires.there
    (adds_test P names c.args.i o c.args.moves.now.items c.push.new.self.items (ap first_kind c.in-Test.is) c.option.invariant c.target-target.result c.in_ok-one-in-Test.field-0
    (map step_of c.as_slice-guards.result.now) (c.target-target.ensures P q.parts q.tables) c.in_ok-one-in-Test.ensures (ap (map step_of) c.as_slice-guards.ensures.value) c.in_ok-push-in-Test.ensures.items)

pub returns-in_ok-add_check-in-Check : goal.returns-in_ok-add_check-in-Check
returns-in_ok-add_check-in-Check g c = λ P p s.
    let names : List Name = map (λ k. k.now) c.self.inside.names.now.keys in
    let q = program_of_parts P names c.self.inside.ways c.args.self.now c.self.view_is p in
    let o : OptionView = record { kind = first_kind c.option.inside.first; steps = map step_of c.option.inside.guards.items; next = link_of c.option.inside.next } in
    at_option P names c.args.self.now.names c.args.i o c.index-options-j.result c.args.moves.now.items c.add_check.new.moves.items c.args.options.now c.args.j
    (same_names names c.self.inside.ways c.args.self.now c.self.view_is) c.option.view_is c.index-options-j.is c.requires.there
    (adds_check P names c.args.i o c.args.moves.now.items c.add_check.new.moves.items (ap first_kind c.in-Check.is) c.option.invariant c.target-target.result c.end-end.result
    (c.target-target.ensures P q.parts q.tables) (end_of P c.self.inside.ways c.end-end.result q c.end-end.ensures)
    (λ h e. c.in_ok-add_check-in-Check.ensures h (ap (map step_of) c.as_slice-guards.ensures.value ∙ e)))

pub returns-in_ok-add_both-in-Both : goal.returns-in_ok-add_both-in-Both
returns-in_ok-add_both-in-Both g c = λ P p s.
    let names : List Name = map (λ k. k.now) c.self.inside.names.now.keys in
    let q = program_of_parts P names c.self.inside.ways c.args.self.now c.self.view_is p in
    let o : OptionView = record { kind = first_kind c.option.inside.first; steps = map step_of c.option.inside.guards.items; next = link_of c.option.inside.next } in
    at_option P names c.args.self.now.names c.args.i o c.index-options-j.result c.args.moves.now.items c.add_both.new.moves.items c.args.options.now c.args.j
    (same_names names c.self.inside.ways c.args.self.now c.self.view_is) c.option.view_is c.index-options-j.is c.requires.there
    (adds_both P names c.args.i o c.args.moves.now.items c.add_both.new.moves.items (ap first_kind c.in-Both.is) c.option.invariant c.target-target.result c.end-end.result
    (c.target-target.ensures P q.parts q.tables) (end_of P c.self.inside.ways c.end-end.result q c.end-end.ensures)
    (λ h k e. c.in_ok-add_both-in-Both.ensures h k (ap (map step_of) c.as_slice-guards.ensures.value ∙ e)))

pub returns-in_ok-push-in-Otherwise : goal.returns-in_ok-push-in-Otherwise
returns-in_ok-push-in-Otherwise g c = λ P p s.
    let names : List Name = map (λ k. k.now) c.self.inside.names.now.keys in
    let q = program_of_parts P names c.self.inside.ways c.args.self.now c.self.view_is p in
    let o : OptionView = record { kind = first_kind c.option.inside.first; steps = map step_of c.option.inside.guards.items; next = link_of c.option.inside.next } in
    at_option P names c.args.self.now.names c.args.i o c.index-options-j.result c.args.moves.now.items c.push-in-Otherwise.new.self.items c.args.options.now c.args.j
    (same_names names c.self.inside.ways c.args.self.now c.self.view_is) c.option.view_is c.index-options-j.is c.requires.there
    (adds_otherwise P names c.args.i o c.args.moves.now.items c.push-in-Otherwise.new.self.items (ap first_kind c.in-Otherwise.is) c.args.options.now c.target-target.result
    c.in_ok-otherwise-in-Otherwise.field-0.items (c.target-target.ensures P q.parts q.tables) s (c.in_ok-otherwise-in-Otherwise.ensures P) c.in_ok-push-in-Otherwise.ensures.items)

pub returns-in_ok-push-in-Leaps : goal.returns-in_ok-push-in-Leaps
returns-in_ok-push-in-Leaps g c = λ P p s.
    let names : List Name = map (λ k. k.now) c.self.inside.names.now.keys in
    let q = program_of_parts P names c.self.inside.ways c.args.self.now c.self.view_is p in
    let o : OptionView = record { kind = first_kind c.option.inside.first; steps = map step_of c.option.inside.guards.items; next = link_of c.option.inside.next } in
    at_option P names c.args.self.now.names c.args.i o c.index-options-j.result c.args.moves.now.items c.push-in-Leaps.new.self.items c.args.options.now c.args.j
    (same_names names c.self.inside.ways c.args.self.now c.self.view_is) c.option.view_is c.index-options-j.is c.requires.there
    (adds_leap P names c.args.i o c.args.moves.now.items c.push-in-Leaps.new.self.items (link_of c.in-Leaps.link) (ap first_kind c.in-Leaps.is) c.target.result c.in_ok-one-in-Leaps.field-0
    (c.target.ensures P q.parts q.tables) c.in_ok-one-in-Leaps.ensures c.in_ok-push-in-Leaps.ensures.items)
