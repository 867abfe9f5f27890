use Rattle.std.proofs.Common.{sym, subst, length}
use Rattle.std.proofs.lemmas.Result.{IfOk-weaker}
use Rattle.ltl_automaton.specs.SharedView.{automaton_of}
use Rattle.ltl_passes.specs.Partition.{AreListsWithin, IsLeastAlike, place_signature}
use Rattle.ltl_passes.specs.Worklist.{IsRound}
use Rattle.ltl_passes.proofs.SignatureLaws.{lists_within, next_round}
use Rattle.ltl_passes.proofs.partition.next_names.Goals as goal

pub list_signatures_under-requires-clause-within : goal.list_signatures_under-requires-clause-within
list_signatures_under-requires-clause-within g c =
    let S = c.args.states.now in
    subst (AreListsWithin S.lists) (sym c.requires.finer.within.states.long) (lists_within S c.invariant.ensures c.requires.within)

pub returns : goal.returns
returns g c =
    let S = c.args.states.now in
    let names = c.args.names.now in
    let signatures = c.in_ok-signatures.signatures.items in
    IfOk-weaker c.least_alike.result (λ v. IsLeastAlike (length S.states) (place_signature S.states c.as_slice.result.now) v.items) (λ v. IsRound (automaton_of S) names v.items)
    (λ v l. next_round S c.invariant.ensures names c.list_signatures_under.new.seen.keys signatures v.items c.in_ok-signatures.ensures (subst (λ cs. IsLeastAlike (length S.states) (place_signature S.states cs) v.items) c.as_slice.ensures.value l)) c.least_alike.ensures
