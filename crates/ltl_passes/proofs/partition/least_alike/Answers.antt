use Rattle.std.proofs.Common.{◌<◌, length, subst, sym}
use Rattle.std.specs.Prelude.{All}
use Rattle.std.proofs.lemmas.Result.{IfOk-weaker}
use Rattle.ltl_passes.specs.Partition.{IsLeastAlike, IsLeastPlaces, place_signature}
use Rattle.ltl_passes.proofs.ClassLaws as laws
use Rattle.ltl_passes.proofs.partition.least_alike.Goals as goal

pub returns : goal.returns
returns g c =
    let n = length c.args.states.now.states in
    let view = place_signature c.args.states.now.states c.args.list_signatures.now in
    IfOk-weaker c.least_places.result (λ v. IsLeastPlaces c.as_slice.result.now v.items) (λ v. IsLeastAlike n view v.items)
    (λ v l. laws.least_alike n view _ c.in_ok-signatures.signatures.items v.items c.in_ok-signatures.ensures (subst (λ cs. IsLeastPlaces cs v.items) c.as_slice.ensures.value l)) c.least_places.ensures

pub least_places-requires : goal.least_places-requires
least_places-requires g c =
    let n = length c.args.states.now.states in
    let view = place_signature c.args.states.now.states c.args.list_signatures.now in
    let within : All (λ i. i < length c.state_signatures.new.places.keys) c.in_ok-signatures.signatures.items = laws.signatures_within n view _ c.in_ok-signatures.signatures.items c.in_ok-signatures.ensures in
    record { within = subst (λ m. All (λ i. i < m) c.as_slice.result.now) (sym c.len-2.ensures) (subst (All (λ i. i < length c.state_signatures.new.places.keys)) (sym c.as_slice.ensures.value) within) }
