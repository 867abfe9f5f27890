use Rattle.std.proofs.Common.{◌≡◌, ◌∙◌, arith, inl, inr, refl, sym, subst}
use Rattle.ltl_spec.specs.Collections.Sets.{Has}
use Rattle.ltl_alt.specs.ComponentView.{start_of}
use Rattle.ltl_alt.proofs.JoinOrderLaws.{number_pushed}
use Rattle.ltl_alt.proofs.TransitionLaws.{index_same}
use Rattle.ltl_alt.proofs.components.Components.numbers.Goals as goal

pub index-requires : goal.index-requires
index-requires g c =
    let inside = c.members.invariant.inside c.in-Some.conjunct (subst (λ xs. Has xs c.in-Some.conjunct) (sym c.in-Some.ensures.steps) (inl refl)) in
    omega (arith, inside)

pub members-preserved : goal.members-preserved
members-preserved g c =
    let starts = c.args.self.now.starts.items in
    let below = c.members.invariant.inside c.in-Some.conjunct (subst (λ xs. Has xs c.in-Some.conjunct) (sym c.in-Some.ensures.steps) (inl refl)) in
    let start : start_of starts c.in-Some.conjunct ≡ c.index.result.now = index_same starts c.in-Some.conjunct 0 c.index.result.now below ∙ sym c.index.ensures in
    record {
      inside = λ k h. c.members.invariant.inside k (subst (λ xs. Has xs k) (sym c.in-Some.ensures.steps) (inr h));
      numbers = number_pushed (start_of starts) c.members.numbers.items c.push.new.self.items c.members.rest c.next.new.self _ c.in-Some.conjunct c.index.result.now c.in_ok-push.ensures.items c.in-Some.ensures.steps start c.members.invariant.numbers;
    }
