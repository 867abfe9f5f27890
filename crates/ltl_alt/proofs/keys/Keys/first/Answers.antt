use Rattle.std.proofs.Common.{◌∙◌, Some}
use Rattle.ltl_alt.proofs.KeyLaws.{key_known, keys_more}
use Rattle.ltl_alt.proofs.keys.Keys.first.Goals as goal

pub returns-in-Some-clause-first : goal.returns-in-Some-clause-first
returns-in-Some-clause-first g c = λ T keep lists w. key_known T keep lists c.args.self.now.states.entries c.args.key.items (Some c.in-Some.first) w (c.in-Some.ensures ∙ c.get.ensures.value)

pub returns-clause-keys : goal.returns-clause-keys
returns-clause-keys g c = λ T keep lists is w. keys_more T keep lists c.args.self.now.states.entries c.insert.new.self.entries c.args.key c.args.state.now is w c.in_ok-insert.ensures.entries
