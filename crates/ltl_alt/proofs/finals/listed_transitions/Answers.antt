use Rattle.std.proofs.Common.{◌≡◌, ◌∙◌, ap, sym, subst, true, false}
use Rattle.ltl_spec.specs.Transitions.RowTransitions as spec
use Rattle.ltl_spec.proofs.Transitions.SortedTransitions.{transitions_as_listed}
use Rattle.ltl_alt.specs.TransitionView.{AllSets, table_at}
use Rattle.ltl_alt.proofs.finals.listed_transitions.Goals as goal

pub marked-requires : goal.marked-requires
marked-requires g c = c.requires.basis.tests

pub returns-then-basis : goal.returns-then-basis
returns-then-basis g c =
    let T = table_at c.args.basis.now.table.now in
    let k : c.args.basis.now.keep_implied ≡ true = c.if-basis.true in
    c.in_ok-all.ensures ∙ ap (λ b. transitions_as_listed T b c.args.pairs.now) (sym k)

pub unimplied-requires : goal.unimplied-requires
unimplied-requires g c = subst AllSets (sym c.in_ok-all.ensures) c.requires.sets

pub returns : goal.returns
returns g c =
    let T = table_at c.args.basis.now.table.now in
    let k : c.args.basis.now.keep_implied ≡ false = c.if-basis.false in
    c.in_ok-transitions.ensures ∙ ap spec.unimplied_transitions c.in_ok-all.ensures ∙ ap (λ b. transitions_as_listed T b c.args.pairs.now) (sym k)
