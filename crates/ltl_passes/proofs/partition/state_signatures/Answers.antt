use Rattle.std.proofs.Common.{◌∙◌, ap, Some}
use Rattle.ltl_automaton.specs.declared.shared.SharedState.{SharedState}
use Rattle.ltl_passes.specs.Partition.{place_signature}
use Rattle.ltl_passes.proofs.ClassLaws.{coded_push, place_with_signature}
use Rattle.ltl_passes.proofs.partition.state_signatures.Goals as goal

pub loop-s-preserved : goal.loop-s-preserved
loop-s-preserved g c =
    let view = place_signature c.args.states.now.states c.args.list_signatures.now in
    coded_push c.loop-s.s view c.loop-s.places.keys c.state_signature.new.places.keys c.loop-s.signatures.items c.push.new.self.items c.in_ok-state_signature.field-0 c.loop-s.invariant
    (c.in_ok-state_signature.ensures.distinct c.loop-s.invariant.distinct) c.in_ok-state_signature.ensures.extends c.in_ok-push.ensures.items
    (c.in_ok-state_signature.ensures.place ∙ ap (λ (p : SharedState). Some p) (place_with_signature c.args.states.now.states c.args.list_signatures.now c.loop-s.s c.state-state.result c.state-state.ensures.state))
