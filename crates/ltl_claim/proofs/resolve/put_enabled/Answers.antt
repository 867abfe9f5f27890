use Rattle.std.proofs.Common.{◌∙◌, ap, subst, true, ◌++◌, List, map, inl, inr}
use Rattle.ltl_spec.specs.Semantics.Word.{Name}
use Rattle.ltl_claim.specs.ProgramView.{OptionView, first_kind, link_of, option_of, step_of}
use Rattle.ltl_claim.specs.ResolveView.{EnablesBy, numbered}
use Rattle.ltl_claim.proofs.AddLaws.{enables_both, enables_check, enables_leap, enables_test, taken}
use Rattle.ltl_claim.proofs.resolve.put_enabled.Goals as goal

pub returns-in_ok-put_steps-in-Test : goal.returns-in_ok-put_steps-in-Test
returns-in_ok-put_steps-in-Test g c = λ P.
    let names : List Name = map (λ k. k.now) c.args.names.now.keys in
    let old = c.args.made.now.items in
    let new = c.put_steps.new.guard.items in
    let o : OptionView = record { kind = first_kind c.option.inside.first; steps = map step_of c.option.inside.guards.items; next = link_of c.option.inside.next } in
    subst (λ (p : OptionView). EnablesBy P names (option_of p).first old true new) c.option.view_is
    (enables_test P names old new o (ap first_kind c.in-Test.is) c.option.invariant (c.in_ok-put_steps-in-Test.ensures ∙ ap (λ ss. old ++ map (numbered names) (map step_of ss)) c.as_slice-guards.ensures.value))

pub returns-in_ok-put_steps-in-Both : goal.returns-in_ok-put_steps-in-Both
returns-in_ok-put_steps-in-Both g c = λ P.
    let names : List Name = map (λ k. k.now) c.args.names.now.keys in
    let old = c.args.made.now.items in
    let new = c.put_steps-in-Both.new.guard.items in
    let o : OptionView = record { kind = first_kind c.option.inside.first; steps = map step_of c.option.inside.guards.items; next = link_of c.option.inside.next } in
    subst (λ (p : OptionView). EnablesBy P names (option_of p).first old true new) c.option.view_is
    (enables_both P names old new o c.middle.result (ap first_kind c.in-Both.is) c.option.invariant
    (λ g h e. c.middle.ensures.exact g h (ap (map step_of) c.as_slice-guards.ensures.value ∙ e))
    (c.in_ok-put_steps-in-Both.ensures ∙ ap (λ ss. old ++ map (numbered names) ss) (taken step_of c.middle.result _ _ c.as_slice-guards.ensures.value)))

pub returns-in_ok-push-in-Check : goal.returns-in_ok-push-in-Check
returns-in_ok-push-in-Check g c = λ P.
    let names : List Name = map (λ k. k.now) c.args.names.now.keys in
    let old = c.args.made.now.items in
    let new = c.push.new.self.items in
    let o : OptionView = record { kind = first_kind c.option.inside.first; steps = map step_of c.option.inside.guards.items; next = link_of c.option.inside.next } in
    subst (λ (p : OptionView). EnablesBy P names (option_of p).first old true new) c.option.view_is
    (elim c.in-Check.is [
      | inl e ↦ enables_check P names old new o (ap first_kind e) c.option.invariant c.in_ok-push-in-Check.ensures.items
      | inr l ↦ enables_leap P names old new o (link_of l.0) (ap first_kind l.1) c.in_ok-push-in-Check.ensures.items
    ])
