use Rattle.std.proofs.Common.{◌≡◌, ◌<◌, ◌+◌, ◌*◌, ◌∙◌, Some, ap, arith, false, length, refl, subst, sym}
use Rattle.std.specs.Prelude.{slice_get}
use Rattle.std.specs.List.{AllByRecursion}
use Rattle.std.proofs.lemmas.Option.{slice_get_read}
use Rattle.least.specs.Blocks.{HasCandidates, part_at}
use Rattle.least.specs.Lookups.{is_above, is_found}
use Rattle.least.proofs.PartLaws.{any_of_part}
use Rattle.least.proofs.SearchLaws.{done_begins, done_ends, done_step, place_fits, turned, upper_clear}
use Rattle.least.proofs.index.place_in_upper.Goals as goal

pub candidates-init : goal.candidates-init
candidates-init g c = record {
  low = subst (AllByRecursion (λ b. b < 256)) (sym c.iter-rest.ensures.members) c.invariant.ensures.below;
  done = done_begins _ c.iter-rest.result c.iter-rest.result refl;
}

pub candidates-preserved : goal.candidates-preserved
candidates-preserved g c =
    let below = g.T.Below.below in
    let counts = g.C.Counting.counts c.args.counting.now in
    let t = c.args.item.now in
    let us = c.args.items.now in
    let s = c.args.number in
    record {
      low = (subst (AllByRecursion (λ b. b < 256)) c.in-Some.ensures.steps c.candidates.invariant.low).1;
      done = done_step (λ b. is_above below counts (part_at (256 * s + b) us) t ≡ false) c.iter-rest.result c.candidates.rest c.next.new.self c.in-Some.b c.in-Some.ensures.steps
          (ap (λ n. is_above below counts (part_at n us) t) (turned s c.in-Some.b) ∙ sym c.in_default-place_in_block.ensures) c.candidates.invariant.done;
    }

pub overflow_add-number : goal.overflow_add-number
overflow_add-number g c =
    let low : c.in-Some.b < 256 = (subst (AllByRecursion (λ b. b < 256)) c.in-Some.ensures.steps c.candidates.invariant.low).0 in
    let few : length c.args.items.now < 18446744073709551616 = omega (arith, c.well_formed) in
    omega (arith, place_fits g.T.Elements.needs c.args.items.now c.args.index.now.uppers.items c.args.number c.in-Some.b c.requires.uppers c.requires.inside low few)

pub overflow_mul-number : goal.overflow_mul-number
overflow_mul-number g c = let all = overflow_add-number g c in omega (arith, all)

pub returns-clause-clear : goal.returns-clause-clear
returns-clause-clear g c =
    let below = g.T.Below.below in
    let counts = g.C.Counting.counts c.args.counting.now in
    let needs = g.T.Elements.needs in
    let asks = g.T.Elements.asks in
    let t = c.args.item.now in
    let uppers = c.args.index.now.uppers.items in
    let s = c.args.number in
    let block = c.index.result.now in
    let all = c.iter-rest.result in
    let got : slice_get uppers s ≡ Some block = slice_get_read uppers (length uppers) s block refl c.requires.inside c.index.ensures in
    let each : HasCandidates (needs t) (asks t) block all = subst (HasCandidates (needs t) (asks t) block) (sym c.iter-rest.ensures.members) c.candidates-candidates.ensures in
    λ e. upper_clear below counts needs asks g.T.Elements.lacking g.met.T.Below.needed g.met.T.Below.lacked t c.args.items.now uppers s block all c.requires.uppers got each
    (done_ends (λ b. is_above below counts (part_at (256 * s + b) c.args.items.now) t ≡ false) all c.candidates.rest c.in_default.ensures.steps.0 c.candidates.invariant.done)

pub returns-in-Some-place_in_block-clause-found : goal.returns-in-Some-place_in_block-clause-found
returns-in-Some-place_in_block-clause-found g c =
    let p = is_found g.T.Below.below (g.C.Counting.counts c.args.counting.now) c.args.item.now in
    λ e. any_of_part p (c.args.number * 256 + c.in-Some.b) c.args.items.now (sym c.in-Some-place_in_block.ensures)
