use Rattle.std.proofs.Common.{◌∙◌}
use Rattle.ltl_claim.specs.ProgramView.{guards_of}
use Rattle.ltl_claim.proofs.GuardLaws as guards
use Rattle.ltl_claim.proofs.ProgramLaws as laws
use Rattle.ltl_claim.proofs.program.Program.test_both.Goals as goal

pub returns : goal.returns
returns g c =
    laws.both_acts c.args.inside c.args.self.now c.take_guards.new.self c.end_head.new.self _ c.end_head.result c.new.result c.in_ok-guards.ensures.taken c.in_ok-guards.ensures.guards
    c.new.ensures c.in_ok-guards.ensures.count c.end_head.ensures

pub new-requires : goal.new-requires
new-requires g c = guards.holds_both _ (guards_of c.args.self.now.steps) c.in_ok-guards.ensures.count (c.in_ok-guards.ensures.guards ∙ c.in_ok-guards.ensures.whole)
