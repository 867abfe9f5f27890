use Rattle.std.proofs.Common.{◌∙◌, map}
use Rattle.ltl_claim.proofs.NameLaws.{name_among, all_over}
use Rattle.ltl_claim.proofs.resolve.owned_names.Goals as goal

pub owned_name-requires : goal.owned_name-requires
owned_name-requires g c =
    name_among (λ k. k.now) c.args.names.now.keys (map (λ k. k.now) c.loop-name.yielded) c.loop-name.name-iterator c.next.new.self c.in-Some.name.now c.requires c.loop-name.invariant.rest c.in-Some.ensures.steps

pub returns : goal.returns
returns g c =
    c.loop-name.invariant.owned ∙ all_over (λ k. k.now) (λ k. k.now) c.args.names.now.keys c.loop-name.name-iterator c.loop-name.yielded c.loop-name.invariant.rest c.in-None.ensures.steps.0
