use Rattle.std.proofs.Common.{length, ◌∙◌, ap, sym, subst}
use Rattle.std.proofs.lemmas.List.Edits.{length-swap}
use Rattle.std.specs.Prelude.{slice_index}
use Rattle.ltl_passes.specs.Worklist.{LeadsWithin}
use Rattle.ltl_passes.proofs.WithinLaws.{own_within, within_swap}
use Rattle.ltl_passes.proofs.classes.rings.Goals as goal

pub loop-state-init : goal.loop-state-init
loop-state-init g c =
    let n = length c.args.names.now in
    let own = c.in_ok-links.ensures in
    record {
      long = (own_within (λ s. s) n c.in_ok-links.links.items own).states.long;
      within = λ coarse w. own_within coarse n c.in_ok-links.links.items own;
    }

pub loop-state-preserved : goal.loop-state-preserved
loop-state-preserved g c =
    let n = length c.args.names.now in
    let s = c.loop-state.state in
    let links = c.loop-state.links.items in
    record {
      long = ap length c.swap.ensures.items ∙ length-swap links s (slice_index c.args.names.now s) ∙ c.loop-state.invariant.long;
      within = λ coarse w.
          subst (LeadsWithin coarse n) (sym c.swap.ensures.items)
          (within_swap coarse n links s (slice_index c.args.names.now s) c.loop-state-test.true (c.requires.inside s c.loop-state-test.true) (sym (w.same s c.loop-state-test.true)) (c.loop-state.invariant.within coarse w));
    }
