use Rattle.std.proofs.Common.{◌≡◌, ◌+◌, ◌++◌, ◌∷◌, [], arith, length, ap, refl, ◌∙◌}
use Rattle.std.proofs.lemmas.List.{length-append}
use Rattle.ltl_alt.specs.TestPairs.{step_pairs}
use Rattle.ltl_alt.proofs.ConjunctLaws.{walk_begins, walk_opens, walk_keeps, walk_ends, few_opened, emptied, conjuncts_none, conjuncts_more, conjuncts_less, conjunct_top}
use Rattle.ltl_alt.proofs.conjuncts.conjuncts.Goals as goal

pub stack-init : goal.stack-init
stack-init g c =
    let ss = c.args.steps.now in
    let none = c.new-conjuncts.ensures.items in
    let one = c.in_ok-push.ensures.ok ∙ ap (λ xs. xs ++ c.args.step ∷ []) c.new-stack.ensures.items in
    let no_length = ap length none in
    let one_length = ap length one in
    let some = c.requires.some in
    record {
      few = omega arith;
      conjuncts = conjuncts_none ss c.new-conjuncts.result.items none;
      stack = conjuncts_more ss [] c.push.new.self.items c.args.step (conjuncts_none ss [] refl) c.requires.within one;
      joined = walk_begins ss (step_pairs ss c.args.step) c.args.step c.new-conjuncts.result.items c.push.new.self.items refl none one;
    }

pub opened-requires-clause-within : goal.opened-requires-clause-within
opened-requires-clause-within g c = conjunct_top c.args.steps.now c.pop.new.self.items c.stack.stack.items c.in-Some.top c.stack.invariant.stack c.in-Some.ensures.items

pub stack-preserved-in-Continue-branch-3 : goal.stack-preserved-in-Continue-branch-3
stack-preserved-in-Continue-branch-3 g c =
    let ss = c.args.steps.now in
    let rest = c.pop.new.self.items in
    let more = c.push-in-Some-opened.new.self.items in
    let new = c.push-in-Some-opened-2.new.self.items in
    let two = c.in-Some-opened.ensures.conjuncts in
    let gone = c.in-Some.ensures.items in
    let first = c.in_ok-push-2.ensures.ok in
    let second = c.in_ok-push-3.ensures.ok in
    let one : length more ≡ length rest + 1 = ap length first ∙ length-append rest (c.in-Some-opened.two.1 ∷ []) in
    let both : length new ≡ length more + 1 = ap length second ∙ length-append more (c.in-Some-opened.two.0 ∷ []) in
    let few = few_opened (length c.stack.conjuncts.items) (length rest) c.len.result c.len-in-Some.result c.args.most c.len.ensures.value c.len-in-Some.ensures.value c.in-Some-opened.ensures.asked in
    record {
      few = omega arith;
      conjuncts = c.stack.invariant.conjuncts;
      stack = conjuncts_more ss more new _ (conjuncts_more ss rest more _ (conjuncts_less ss rest c.stack.stack.items c.in-Some.top c.stack.invariant.stack gone) two.second first) two.first second;
      joined = walk_opens ss (step_pairs ss c.args.step) c.in-Some.top c.in-Some-opened.two c.stack.conjuncts.items c.stack.stack.items rest more new gone first second two c.stack.invariant.joined;
    }

pub stack-preserved : goal.stack-preserved
stack-preserved g c =
    let ss = c.args.steps.now in
    let rest = c.pop.new.self.items in
    let more = c.push-in_default-opened.new.self.items in
    let gone = c.in-Some.ensures.items in
    let kept = c.in_ok-push-4.ensures.ok in
    let few = c.stack.invariant.few in
    let one = ap length kept ∙ length-append c.stack.conjuncts.items _ in
    let less = ap length gone ∙ length-append rest _ in
    let top = conjunct_top ss rest c.stack.stack.items c.in-Some.top c.stack.invariant.stack gone in
    record {
      few = omega arith;
      conjuncts = conjuncts_more ss c.stack.conjuncts.items more c.in-Some.top c.stack.invariant.conjuncts top kept;
      stack = conjuncts_less ss rest c.stack.stack.items c.in-Some.top c.stack.invariant.stack gone;
      joined = walk_keeps ss (step_pairs ss c.args.step) c.in-Some.top c.stack.conjuncts.items c.stack.stack.items rest more gone kept c.stack.invariant.joined;
    }

pub returns-clause-joined : goal.returns-clause-joined
returns-clause-joined g c =
    walk_ends c.args.steps.now (step_pairs c.args.steps.now c.args.step) c.stack.conjuncts.items c.stack.stack.items (emptied c.pop.result c.stack.stack.items c.pop.ensures.variant.1 c.in_default.is) c.stack.invariant.joined
