use Rattle.std.proofs.Common.{◌≡◌, ℕ, suc, ◌+◌, List, ◌∙◌, sym, subst, arith, length}
use Rattle.ltl_spec.specs.Construction.Merging.{class_names}
use Rattle.ltl_spec.proofs.Construction.NamingLaws.{IsWithin}
use Rattle.ltl_automaton.specs.SharedView.{automaton_of}
use Rattle.ltl_passes.specs.Worklist.{AreFiner, IsRound}
use Rattle.ltl_passes.proofs.MergeLaws.{same_list}
use Rattle.ltl_passes.proofs.FinerLaws.{closed_last, finer_last, has_coarser, has_first, has_next, next_finer}
use Rattle.ltl_passes.proofs.partition.refined.Goals as goal

pub loop-round-init : goal.loop-round-init
loop-round-init g c = record { finer = c.requires.finer; reached = has_first (automaton_of c.args.states.now) c.args.fine.items }

pub next_names-requires-clause-finer : goal.next_names-requires-clause-finer
next_names-requires-clause-finer g c = subst (AreFiner (automaton_of c.args.states.now)) (sym c.as_slice.ensures.value) c.loop-round.invariant.finer

pub returns-then-eq : goal.returns-then-eq
returns-then-eq g c =
    let A = automaton_of c.args.states.now in
    let names = c.loop-round.names.items in
    let next = c.in_ok-next.next.items in
    let round = subst (λ (ns : List ℕ). IsRound A ns next) c.as_slice.ensures.value c.in_ok-next.ensures in
    let same = sym c.as_slice-in-loop-round.ensures.value ∙ same_list _ _ (sym c.eq.ensures ∙ c.if-eq.true) ∙ c.as_slice-in-loop-round-2.ensures.value in
    closed_last A names next c.loop-round.invariant.finer round same

pub coarsened-requires-clause-finer : goal.coarsened-requires-clause-finer
coarsened-requires-clause-finer g c =
    let A = automaton_of c.args.states.now in
    let round = subst (λ (ns : List ℕ). IsRound A ns c.in_ok-next.next.items) c.as_slice.ensures.value c.in_ok-next.ensures in
    next_finer A c.loop-round.names.items c.in_ok-next.next.items c.loop-round.invariant.finer round

pub loop-round-preserved : goal.loop-round-preserved
loop-round-preserved g c =
    let A = automaton_of c.args.states.now in
    let names = c.loop-round.names.items in
    let next = c.in_ok-next.next.items in
    let w = c.loop-round.invariant in
    let round = subst (λ (ns : List ℕ). IsRound A ns next) c.as_slice.ensures.value c.in_ok-next.ensures in
    let n = c.loop-round.round in
    let z : suc n ≡ n + 1 = omega arith in
    let reached = has_coarser A (suc n) next c.in_ok-names.names.items round.long c.in_ok-names.ensures.coarser (has_next A n names next w.finer w.reached round) in
    record { finer = c.in_ok-names.ensures.finer; reached = subst (λ m. IsWithin A (class_names A m) c.in_ok-names.names.items) z reached }

pub returns : goal.returns
returns g c =
    let A = automaton_of c.args.states.now in
    let end : c.loop-round.round ≡ length A.states = omega (arith, c.loop-round-test.false, c.loop-round.auto.round-end, c.len-round-end.ensures) in
    finer_last A c.loop-round.names.items c.loop-round.invariant.finer (subst (λ n. IsWithin A (class_names A n) c.loop-round.names.items) end c.loop-round.invariant.reached)
