use Rattle.std.proofs.Common.{◌∙◌, ap, sym, subst, List, Some}
use Rattle.ltl_spec.specs.Automata.Automaton.{Edge}
use Rattle.ltl_spec.specs.Collections.Lists.{HasNoRepeats}
use Rattle.ltl_spec.proofs.Collections.ListLaws.{HasNoRepeats-with_new}
use Rattle.ltl_automaton.specs.EdgeView.{same_edges, edges_Decides}
use Rattle.ltl_passes.proofs.partition.signature.Goals as goal

pub returns-clause-place : goal.returns-clause-place
returns-clause-place g c =
    let w = c.in_ok-place.ensures.stored in
    w.1 ∙ ap (λ (es : List Edge). Some es) (sym ((edges_Decides c.new.result w.0).0 w.2) ∙ c.new.ensures)

pub returns-clause-distinct : goal.returns-clause-distinct
returns-clause-distinct g c = λ d. subst HasNoRepeats (sym c.in_ok-place.ensures.keys) (HasNoRepeats-with_new same_edges edges_Decides c.args.seen.now.keys c.new.result d)
