use Rattle.std.proofs.Common.{◌∙◌, ap}
use Rattle.std.specs.List.{position}
use Rattle.ltl_automaton.specs.WorklistView.{WorklistView}
use Rattle.ltl_automaton.proofs.worklist.Worklist.place.Goals as goal

pub returns : goal.returns
returns g c =
    c.place.ensures ∙ ap (λ (l : WorklistView g.row.K.Denot). position (g.K.PartialEq.eq c.args.key) l.keys) c.self.view_is
