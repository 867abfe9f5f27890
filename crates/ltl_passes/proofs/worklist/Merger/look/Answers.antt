use Rattle.std.proofs.Common.{◌∙◌}
use Rattle.ltl_automaton.specs.SharedView.{automaton_of}
use Rattle.ltl_passes.specs.Worklist.{last_name}
use Rattle.ltl_passes.proofs.FinerLaws.{last_same}
use Rattle.ltl_passes.proofs.worklist.Merger.look.Goals as goal

pub returns-clause-merger : goal.returns-clause-merger
returns-clause-merger g c =
    let A = automaton_of c.args.states.now in
    let o = c.in_ok-owner.ensures in
    record {
      long = c.in_ok-renamed.ensures.long ∙ o.merger.long;
      within = c.in_ok-renamed.ensures.within (last_name A) (last_same A c.in_ok-owner.owner c.args.state o.inside c.requires.state o.same) o.merger.within;
      accepting = o.merger.accepting;
      others = o.merger.others;
    }
