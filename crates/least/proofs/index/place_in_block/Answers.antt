use Rattle.std.proofs.Common.{◌≡◌, ◌<◌, ◌∙◌, Some, arith, length, refl, subst, sym}
use Rattle.std.specs.Prelude.{slice_get}
use Rattle.std.proofs.lemmas.Option.{slice_get_read}
use Rattle.least.specs.Blocks.{HasCandidates}
use Rattle.least.specs.Lookups.{is_found}
use Rattle.least.proofs.SearchLaws.{IsClearAt, block_clear, clear_here, clear_past, done_begins, done_ends, done_step}
use Rattle.least.proofs.index.place_in_block.Goals as goal

pub candidates-init : goal.candidates-init
candidates-init g c = done_begins (IsClearAt (is_found g.T.Below.below (g.C.Counting.counts c.args.counting.now) c.args.item.now) c.part-part.result.now) c.iter-rest.result c.iter-rest.result refl

pub candidates-preserved : goal.candidates-preserved
candidates-preserved g c =
    let p = is_found g.T.Below.below (g.C.Counting.counts c.args.counting.now) c.args.item.now in
    let part = c.part-part.result.now in
    done_step (IsClearAt p part) c.iter-rest.result c.candidates.rest c.next.new.self c.in-Some.j c.in-Some.ensures.steps (clear_past p part c.in-Some.j c.in_default-get.ensures.lookup.0) c.candidates.invariant

pub candidates-preserved-else-is_lesser : goal.candidates-preserved-else-is_lesser
candidates-preserved-else-is_lesser g c =
    let p = is_found g.T.Below.below (g.C.Counting.counts c.args.counting.now) c.args.item.now in
    let part = c.part-part.result.now in
    done_step (IsClearAt p part) c.iter-rest.result c.candidates.rest c.next.new.self c.in-Some.j c.in-Some.ensures.steps
    (clear_here p part c.in-Some.j c.in-Some-get.other.now c.in-Some-get.ensures.lookup.1 (sym c.is_lesser.ensures ∙ c.if-is_lesser.false)) c.candidates.invariant

pub returns : goal.returns
returns g c =
    let below = g.T.Below.below in
    let counts = g.C.Counting.counts c.args.counting.now in
    let needs = g.T.Elements.needs in
    let asks = g.T.Elements.asks in
    let t = c.args.item.now in
    let blocks = c.args.index.now.blocks.items in
    let n = c.args.number in
    let block = c.index.result.now in
    let all = c.iter-rest.result in
    let inside : n < length blocks = omega (arith, c.len.ensures, c.if-number-len.false) in
    let got : slice_get blocks n ≡ Some block = slice_get_read blocks (length blocks) n block refl inside c.index.ensures in
    let each : HasCandidates (needs t) (asks t) block all = subst (HasCandidates (needs t) (asks t) block) (sym c.iter-rest.ensures.members) c.candidates-candidates.ensures in
    block_clear below counts needs asks g.T.Elements.lacking g.met.T.Below.needed g.met.T.Below.lacked t c.args.items.now blocks n block all c.requires got each
    (λ j h. subst (λ us. IsClearAt (is_found below counts t) us j) c.part-part.ensures (done_ends (IsClearAt (is_found below counts t) c.part-part.result.now) all c.candidates.rest c.in_default.ensures.steps.0 c.candidates.invariant j h))
