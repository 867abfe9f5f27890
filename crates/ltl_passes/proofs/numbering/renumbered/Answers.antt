use Rattle.std.proofs.Common.{◌≡◌, ◌∙◌, ap, subst, true}
use Rattle.std.specs.Prelude.{◌==◌}
use Rattle.std.proofs.lemmas.Result.{IfOk-weaker}
use Rattle.ltl_spec.specs.Construction.Renumbered.{renumbered_automaton}
use Rattle.ltl_spec.specs.Automata.Net.{IsReachable}
use Rattle.ltl_automaton.specs.Net.{moves_of}
use Rattle.ltl_automaton.specs.SharedView.{Shared, automaton_of}
use Rattle.ltl_passes.specs.Numbered.{net_of}
use Rattle.ltl_passes.proofs.RenumberLaws.{is_renumbered, never_too_large}
use Rattle.ltl_passes.proofs.numbering.renumbered.Goals as goal

pub returns-clause-renumbered : goal.returns-clause-renumbered
returns-clause-renumbered g c =
    let A = automaton_of c.args.states.now in
    IfOk-weaker c.explore_from.result (λ s. IsReachable ◌==◌ true (moves_of (net_of A)) 0 c.new-made.result.sets (automaton_of s)) (λ s. automaton_of s ≡ renumbered_automaton A)
    (λ s w. is_renumbered A c.requires (automaton_of s) (subst (λ n. IsReachable ◌==◌ true (moves_of (net_of A)) 0 n (automaton_of s)) (ap (λ (x : Shared). x.sets) c.new-made.ensures ∙ c.sets.ensures) w)) c.explore_from.ensures.reachable

pub returns-clause-fits : goal.returns-clause-fits
returns-clause-fits g c = λ e. never_too_large (automaton_of c.args.states.now) c.requires (c.explore_from.ensures.large e)
