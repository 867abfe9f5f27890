use Rattle.std.proofs.Common.{◌∙◌, ◌+◌, ◌-◌, length, ap, subst, map, take, drop}
use Rattle.ltl_word.specs.LeastView.{IsShortest, IsKept}
use Rattle.ltl_word.proofs.LeastRows.{cycle_rows, least_made, least_view}
use Rattle.ltl_word.proofs.lasso.Lasso.least.Goals as goal

pub invariant_of-result : goal.invariant_of-result
invariant_of-result g c =
    let all = c.self.inside.letters.items in
    let stem = c.self.inside.stem in
    let short : IsShortest (drop stem all) c.shortest-d.result = subst (λ ls. IsShortest ls c.shortest-d.result) (ap (λ ls. take (length ls - stem) (drop stem ls)) c.deref.ensures.value ∙ cycle_rows all stem c.self.invariant.cycles) c.shortest-d.ensures in
    let keeps : IsKept all stem c.shortest-d.result c.kept-stem.result = subst (λ ls. IsKept ls stem c.shortest-d.result c.kept-stem.result) c.as_slice.ensures.value c.kept-stem.ensures in
    least_made (map (λ n. n.items) c.self.inside.names.items) all stem c.self.invariant c.shortest-d.result c.kept-stem.result short keeps
    (map (λ n. n.items) c.in_ok-names.names.items) (c.in_ok-names.ensures ∙ ap (map (λ n. n.items)) c.as_slice-2.ensures.value)
    c.in_ok-letters.letters.items (c.in_ok-letters.ensures.items ∙ ap (take (c.kept-stem.result + c.shortest-d.result)) c.deref-2.ensures.value)

pub returns : goal.returns
returns g c =
    let all = c.self.inside.letters.items in
    let stem = c.self.inside.stem in
    let short : IsShortest (drop stem all) c.shortest-d.result = subst (λ ls. IsShortest ls c.shortest-d.result) (ap (λ ls. take (length ls - stem) (drop stem ls)) c.deref.ensures.value ∙ cycle_rows all stem c.self.invariant.cycles) c.shortest-d.ensures in
    let keeps : IsKept all stem c.shortest-d.result c.kept-stem.result = subst (λ ls. IsKept ls stem c.shortest-d.result c.kept-stem.result) c.as_slice.ensures.value c.kept-stem.ensures in
    least_view (map (λ n. n.items) c.self.inside.names.items) all stem c.self.invariant c.args.self.now c.self.view_is c.shortest-d.result c.kept-stem.result short keeps
    (map (λ n. n.items) c.in_ok-names.names.items) (c.in_ok-names.ensures ∙ ap (map (λ n. n.items)) c.as_slice-2.ensures.value)
    c.in_ok-letters.letters.items (c.in_ok-letters.ensures.items ∙ ap (take (c.kept-stem.result + c.shortest-d.result)) c.deref-2.ensures.value)
