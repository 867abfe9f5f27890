use Rattle.std.proofs.Common.{length, ◌∙◌, ap, subst}
use Rattle.std.proofs.lemmas.Result.{IfOk-weaker}
use Rattle.ltl_automaton.specs.SharedView.{automaton_of}
use Rattle.ltl_passes.specs.Partition.{IsLeastPlaces}
use Rattle.ltl_passes.specs.Worklist.{AreFiner, LeadsWithin, last_name, own_view}
use Rattle.ltl_passes.proofs.OwnerLaws.{least_finer, no_owners, first_within}
use Rattle.ltl_passes.proofs.worklist.merged.Goals as goal

pub run-requires-clause-merger : goal.run-requires-clause-merger
run-requires-clause-merger g c =
    let A = automaton_of c.args.states.now in
    let names = c.args.names.now in
    let classes = c.in_ok-classes.ensures in
    let within = c.requires.finer.within in
    record {
      long = ap length classes.names ∙ within.states.long;
      within = first_within (last_name A) (length A.states) names c.in_ok-classes.classes.names.items c.in_ok-classes.classes.links.items within classes.names (classes.links (last_name A));
      accepting = no_owners (length A.states) (own_view A) _ _ _ c.new.ensures;
      others = no_owners (length A.states) (own_view A) _ _ _ c.new-2.ensures;
    }

pub returns : goal.returns
returns g c =
    let A = automaton_of c.args.states.now in
    let w = c.in_ok-run.ensures in
    let names = c.run.new.merger.classes.names.items in
    let within : LeadsWithin (last_name A) (length A.states) names = subst (λ n. LeadsWithin (last_name A) n names) w.long w.within.names in
    IfOk-weaker c.least_places.result (λ v. IsLeastPlaces c.as_slice.result.now v.items) (λ v. AreFiner A v.items)
    (λ v l. least_finer A names v.items within (subst (λ ns. IsLeastPlaces ns v.items) c.as_slice.ensures.value l)) c.least_places.ensures
