use Rattle.std.proofs.Common.{◌≡◌, ◌<◌, length, sym, subst, ◌∙◌, rules}
use Rattle.ltl_reduce.specs.declared.matching.Matching as made
use Rattle.ltl_reduce.specs.declared.relation.Relation.TheVariants.{Across, Back}
use Rattle.ltl_reduce.proofs.CheckLaws.{cells_same, first_shown}
use Rattle.ltl_reduce.proofs.checking.check_cells.Goals as goal

pub returns : goal.returns
returns g c = λ h.
    let m : made.Matching = record { frees = c.none.result; sets = c.sets.result; relation = Across c.args.cells.now c.args.stands } in
    let n : made.Matching = record { frees = c.none-2.result; sets = c.sets-2.result; relation = Back c.args.cells.now c.args.stands c.len.result } in
    let long : length c.args.stands.now ≡ length c.args.smaller.now.states = search rules in
    cells_same c.args.automaton.now c.args.smaller.now m n c.invariant.ensures c.invariant-2.ensures c.sets.ensures.count c.sets-2.ensures.count (search rules) (sym c.relates.ensures ∙ search rules) (sym c.relates-else-not-relates.ensures ∙ search rules)
    c.none.ensures c.none-2.ensures (λ s t k. subst (λ x. t < x) long (first_shown t (length c.args.stands.now) _ k)) (λ t s k. subst (λ x. s < x) c.len.ensures.count (first_shown s c.len.result _ k)) (c.are_followed.ensures h)
