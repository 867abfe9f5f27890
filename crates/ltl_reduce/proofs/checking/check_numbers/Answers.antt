use Rattle.std.proofs.Common.{sym, ◌∙◌, rules}
use Rattle.ltl_reduce.specs.declared.matching.Matching as made
use Rattle.ltl_reduce.specs.declared.relation.Relation.TheVariants.{Forward, Backward}
use Rattle.ltl_reduce.proofs.CheckLaws.{backward_shown, forward_shown, numbers_same}
use Rattle.ltl_reduce.proofs.checking.check_numbers.Goals as goal

pub returns-then-are_right : goal.returns-then-are_right
returns-then-are_right g c = λ h.
    let m : made.Matching = record { frees = c.args.frees.now; sets = c.sets.result; relation = Forward c.args.numbers c.len.result } in
    let n : made.Matching = record { frees = c.none.result; sets = c.sets-2.result; relation = Backward c.args.numbers } in
    numbers_same c.args.automaton.now c.args.smaller.now m n c.invariant.ensures c.invariant-2.ensures c.sets.ensures.count c.sets-2.ensures.count (search rules) (sym c.relates.ensures ∙ search rules) (sym c.relates-else-not-relates.ensures ∙ search rules) c.args.numbers.now c.len.result
    (c.are_right.ensures c.if-are_right.true) c.none.ensures (λ s t k. forward_shown c.args.numbers.now c.len.result s t k) (λ t s k. backward_shown c.args.numbers.now t s k) c.len.ensures.count (c.are_alike.ensures h)
