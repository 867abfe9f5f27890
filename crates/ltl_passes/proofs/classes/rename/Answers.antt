use Rattle.std.proofs.Common.{◌≡◌, ◌<◌, length, sym, ◌∙◌, subst, arith}
use Rattle.std.specs.Prelude.{All, slice_set}
use Rattle.ltl_passes.specs.Worklist.{LeadsWithin}
use Rattle.ltl_passes.proofs.WithinLaws.{within_set, all_pushed, set_long}
use Rattle.ltl_passes.proofs.classes.rename.Goals as goal

pub members-preserved : goal.members-preserved
members-preserved g c =
    let was = c.members.names in
    let member = c.members.member in
    let w = c.members.invariant in
    let long : length (slice_set was member c.args.name) ≡ length was = set_long was member c.args.name in
    let same = c.members.auto.names in
    let inside : member < length was = w.inside in
    let name : c.args.name < length was = omega (arith, c.requires.name) in
    let next = c.requires.links.inside member (omega arith) in
    record {
      inside = omega (arith, next);
      renamed = subst (λ n. All (λ s. s < n) c.push.new.self.items) (sym long) (all_pushed (length was) c.members.renamed.items c.push.new.self.items member w.renamed inside c.in_ok-push.ensures.items);
      same = λ coarse v.
          let u = subst (λ n. LeadsWithin coarse n c.args.links.now) long v in
          u.same member inside ∙ w.same coarse u;
      within = λ coarse v e h.
          let u = subst (λ n. LeadsWithin coarse n c.args.links.now) long v in
          let k = subst (λ n. LeadsWithin coarse n c.args.names.now) long h in
          subst (λ n. LeadsWithin coarse n (slice_set was member c.args.name)) (sym long) (within_set coarse (length was) was member c.args.name inside name (sym e ∙ sym (w.same coarse u)) (w.within coarse u e k));
    }

pub returns-then-member-state-clause-within : goal.returns-then-member-state-clause-within
returns-then-member-state-clause-within g c = λ coarse u e h.
    let was = c.members.names in
    let n = length c.args.names.now in
    let w = c.members.invariant in
    let kept : length was ≡ n = c.members.auto.names in
    let inside : c.members.member < n = omega (arith, w.inside) in
    let links = subst (λ k. LeadsWithin coarse k c.args.links.now) (sym kept) u in
    let names = subst (λ k. LeadsWithin coarse k c.args.names.now) (sym kept) h in
    within_set coarse n was c.members.member c.args.name inside c.requires.name (sym e ∙ sym (w.same coarse links)) (subst (λ k. LeadsWithin coarse k was) kept (w.within coarse links e names))

pub returns-clause-within : goal.returns-clause-within
returns-clause-within g c = λ coarse u e h.
    let was = c.members.names in
    let kept : length was ≡ length c.args.names.now = c.members.auto.names in
    let links = subst (λ k. LeadsWithin coarse k c.args.links.now) (sym kept) u in
    let names = subst (λ k. LeadsWithin coarse k c.args.names.now) (sym kept) h in
    subst (λ k. LeadsWithin coarse k was) kept (c.members.invariant.within coarse links e names)
