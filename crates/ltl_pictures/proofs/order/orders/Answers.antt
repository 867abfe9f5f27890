use Rattle.std.proofs.Common.{◌∙◌, ◌<◌, ap, map, sym, subst, []}
use Rattle.std.proofs.lemmas.List.{map-append}
use Rattle.ltl_models.specs.BaView.{IsTargetOrder}
use Rattle.ltl_pictures.specs.Picture.{edges_at}
use Rattle.ltl_pictures.proofs.FlagLaws.{SortedAt}
use Rattle.ltl_pictures.proofs.NameLaws.{count_push, each_pushed}
use Rattle.ltl_pictures.proofs.order.orders.Goals as goal

pub loop-k-preserved : goal.loop-k-preserved
loop-k-preserved g c =
    let A = c.args.automaton.now in
    let old = map (λ p. p.items) c.loop-k.orders.items in
    let new = map (λ p. p.items) c.push.new.self.items in
    let pushed = ap (map (λ p. p.items)) c.in_ok-push.ensures.items ∙ map-append (λ p. p.items) c.loop-k.orders.items _ in
    let sorted = subst (λ es. IsTargetOrder es c.in_ok-places_by_target.field-0.items) (c.edges.ensures ∙ ap (edges_at A) (sym c.loop-k.invariant.long)) c.in_ok-places_by_target.ensures.order in
    let long = count_push old _ new c.loop-k.k pushed c.loop-k.invariant.long in
    record {
      long = long;
      each = λ j l. each_pushed (SortedAt A) old new _ [] pushed (λ i m. c.loop-k.invariant.each i (subst (λ n. i < n) c.loop-k.invariant.long m)) sorted j (subst (λ n. j < n) (sym long) l);
    }
