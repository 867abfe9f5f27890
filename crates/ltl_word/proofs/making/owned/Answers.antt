use Rattle.std.proofs.Common.{arith, []}
use Rattle.std.proofs.lemmas.List.{get_or-map}
use Rattle.ltl_word.proofs.NameLaws.{owned_push, owned_end}
use Rattle.ltl_word.proofs.making.owned.Goals as goal

pub loop-i-preserved : goal.loop-i-preserved
loop-i-preserved g c = record {
  owned = owned_push (λ n. n.items) (λ n. n.now) c.loop-i.owned.items c.push.new.self.items _ c.args.names.now _ c.loop-i.i c.in_ok-push.ensures.items c.loop-i.invariant.owned c.in_ok-from_slice.ensures.ok c.loop-i-test.true (get_or-map (λ n. n.now) c.args.names.now c.loop-i.i _ [] c.loop-i-test.true);
}

pub returns : goal.returns
returns g c = owned_end (λ n. n.items) (λ n. n.now) c.loop-i.owned.items c.args.names.now c.loop-i.i (let f = c.loop-i-test.false in omega (arith, f)) c.loop-i.invariant.owned
