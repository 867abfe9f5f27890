use Rattle.std.proofs.Common.{List, map}
use Rattle.ltl_spec.specs.Semantics.Word.{Name}
use Rattle.ltl_claim.specs.ProgramView.{step_of}
use Rattle.ltl_claim.proofs.AddLaws.{check_twice}
use Rattle.ltl_claim.proofs.resolve.add_check.Goals as goal

pub returns : goal.returns
returns g c = λ q s.
    let names : List Name = map (λ k. k.now) c.args.names.now.keys in
    check_twice names (map step_of c.args.guards.now) c.args.moves.now.items c.in_ok-one.field-0 c.in_ok-one-2.field-0 c.push.new.self.items c.push-2.new.self.items c.args.target c.args.end
    c.in_ok-one.ensures c.in_ok-one-2.ensures c.in_ok-push.ensures.items c.in_ok-push-2.ensures.items q s
