use Rattle.std.proofs.Common.{◌≡◌, ◌<◌, ◌∙◌, length, rules}
use Rattle.ltl_alt.proofs.ProductLaws.{first_consistent, rest_more}
use Rattle.ltl_alt.proofs.product.multiply.Goals as goal

pub rest-preserved : goal.rest-preserved
rest-preserved g c =
    let old = c.args.products.now in
    let count : c.len-count.result ≡ length old.items = c.len-count.ensures ∙ old.ok.0 in
    rest_more c.args.list.now old.items c.rest.products.items c.append_joined.new.products.items c.index-list-k.result c.rest.k c.len-count.result c.rest.auto.k c.rest-test.true c.index-list-k.is
    c.requires.consistent count c.rest.invariant c.in_ok-append_joined.ensures

pub join_each-requires : goal.join_each-requires
join_each-requires g c =
    let old = c.args.products.now in
    let count : c.len-count.result ≡ length old.items = c.len-count.ensures ∙ old.ok.0 in
    let some : 0 < length c.args.list.now = search rules in
    record {
      consistent = first_consistent c.args.list.now old.items c.as_mut_slice.result.now c.split_at_mut-first.result.0.now c.index-list-0.result c.rest.k c.len-count.result some c.index-list-0.is
          c.requires.consistent count (c.as_mut_slice.ensures.value ∙ c.rest.invariant) c.split_at_mut-first.ensures.front;
    }
