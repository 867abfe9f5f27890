use Rattle.std.proofs.Common.{◌∙◌, ap, List, map, take}
use Rattle.std.proofs.lemmas.List.{take_rest}
use Rattle.ltl_spec.specs.Semantics.Word.{Name}
use Rattle.ltl_claim.specs.ProgramView.{step_of}
use Rattle.ltl_claim.proofs.AddLaws.{both_contradict, both_follow, first_slice, second_slice}
use Rattle.ltl_claim.proofs.resolve.add_both.Goals as goal

pub returns-in_ok-push : goal.returns-in_ok-push
returns-in_ok-push g c = λ q h s.
    let names : List Name = map (λ k. k.now) c.args.names.now.keys in
    let m = c.middle-middle.result in
    let first = first_slice c.args.guards.now m q h s (c.middle-middle.ensures.exact q h s) in
    let second = second_slice c.args.guards.now m q h s (c.middle-middle.ensures.exact q h s) in
    both_contradict names c.args.moves.now.items c.push.new.self.items c.in_ok-one.field-0 (map step_of (take m c.args.guards.now)) c.args.target c.args.end c.negates.result
    c.in_ok-one.ensures c.in_ok-push.ensures.items c.if-negates.true q h first (c.negates.ensures q h first (ap (map step_of) (take_rest c.args.guards.now m) ∙ second))

pub returns-in_ok-push-3 : goal.returns-in_ok-push-3
returns-in_ok-push-3 g c = λ q h s.
    let names : List Name = map (λ k. k.now) c.args.names.now.keys in
    let m = c.middle-middle.result in
    let first = first_slice c.args.guards.now m q h s (c.middle-middle.ensures.exact q h s) in
    let second = second_slice c.args.guards.now m q h s (c.middle-middle.ensures.exact q h s) in
    both_follow names (map step_of c.args.guards.now) c.args.moves.now.items c.in_ok-one-2.field-0 c.in_ok-one-3.field-0 c.push-else-negates.new.self.items c.push-else-negates-2.new.self.items
    c.args.target c.args.end c.negates.result c.in_ok-one-2.ensures c.in_ok-one-3.ensures c.in_ok-push-2.ensures.items c.in_ok-push-3.ensures.items c.if-negates.false q h s
    (c.negates.ensures q h first (ap (map step_of) (take_rest c.args.guards.now m) ∙ second))
