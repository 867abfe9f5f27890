use Rattle.std.proofs.Common.{◌<◌, length, refl, map, arith}
use Rattle.std.proofs.lemmas.List.{get_or_read}
use Rattle.ltl_automaton.specs.CodedEdges.{coded_edge_of}
use Rattle.ltl_passes.proofs.OwnerLaws.{owners_grown, owner_known, owner_new}
use Rattle.ltl_passes.proofs.owners.Owners.owner.Goals as goal

pub returns-then-number-len : goal.returns-then-number-len
returns-then-number-len g c = record {
  owners = λ count own view l e w.
      let firsts = c.args.self.now.firsts.items in
      let below : c.in_ok-number.number < length firsts = omega (arith, c.args.self.now.firsts.ok.0) in
      owner_known count own view c.args.self.now.seen.keys c.signature.new.seen.keys firsts c.in_ok-number.number (map coded_edge_of c.args.edges.items) c.args.state c.index.result.now w c.in_ok-number.ensures.extends c.in_ok-number.ensures.place below
      (get_or_read firsts c.in_ok-number.number _ below c.index.ensures 0) e;
}

pub returns-in_ok-push : goal.returns-in_ok-push
returns-in_ok-push g c = record {
  owners = λ count own view l e w. (
    owner_new count own view c.args.self.now.seen.keys c.signature.new.seen.keys c.args.self.now.firsts.items c.push.new.self.items c.in_ok-number.number (map coded_edge_of c.args.edges.items) c.args.state w l c.in_ok-number.ensures.extends c.in_ok-number.ensures.place
        (omega (arith, c.args.self.now.firsts.ok.0, c.if-number-len-2.true, c.len-2.ensures)) c.in_ok-push.ensures.items e,
    l,
    refl,
  );
}

pub returns-else-number-len-2 : goal.returns-else-number-len-2
returns-else-number-len-2 g c = record {
  owners = λ count own view l e w. (owners_grown count own view c.args.self.now.seen.keys c.signature.new.seen.keys c.args.self.now.firsts.items w c.in_ok-number.ensures.extends, l, refl);
}
