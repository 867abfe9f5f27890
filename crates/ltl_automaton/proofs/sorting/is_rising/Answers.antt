use Rattle.std.proofs.Common.{rules, ◌≡◌, refl, subst}
use Rattle.std.specs.List.{IsAllAdjacentAnswer}
use Rattle.std.specs.Ordering.{is_lt}
use Rattle.std.proofs.lemmas.Fn.{always_returns_same}
use Rattle.ltl_automaton.proofs.SortingLaws.{rises_by_answers}
use Rattle.ltl_automaton.proofs.sorting.is_rising.Goals as goal

pub returns : goal.returns
returns g c =
    let order = g.T.ListOrder.order in
    let checked = c.is_sorted_by.ensures.cases (λ x y. is_lt (order x y)) (always_returns_same _ _ _ (λ a r q k. (search rules, refl))) in
    λ e. rises_by_answers g.met.T.ListOrder.linear c.args.items.now (subst (IsAllAdjacentAnswer (λ x y b. b ≡ is_lt (order x y)) c.args.items.now) e checked)
