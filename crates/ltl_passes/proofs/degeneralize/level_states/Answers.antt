use Rattle.std.proofs.Common.{ap, subst, sym, Result, Err, true}
use Rattle.std.specs.Result.{IsErrOf, IsErrAnd}
use Rattle.ltl_spec.specs.Automata.Net.{IsReachable}
use Rattle.ltl_spec.specs.Construction.Levels.{same_level_state, start_copy}
use Rattle.ltl_automaton.specs.Net.{moves_of}
use Rattle.ltl_automaton.specs.SharedView.{Shared, automaton_of}
use Rattle.ltl_passes.specs.Degeneralize.{coded_level_net}
use Rattle.ltl_automaton.specs.declared.fault.AutomatonFault.{AutomatonFault}
use Rattle.ltl_automaton.specs.declared.fault.AutomatonFault.TheVariants.{TooLarge}
use Rattle.ltl_automaton.specs.CodedEdges.{tables_of}
use Rattle.ltl_passes.proofs.LabelledReach.{levels_are_coded}
use Rattle.ltl_passes.proofs.LevelStateLaws.{coded_ba, coded_leveled, coded_too_large, coded_not_too_large}
use Rattle.ltl_passes.proofs.degeneralize.level_states.Goals as goal

passed_on : {T : Type 0} (r : Result T AutomatonFault) (P : AutomatonFault → Type 0) → IsErrAnd r P → IsErrOf r TooLarge → P TooLarge
passed_on r P a e = subst (λ q. IsErrAnd q P) e a

pub returns-in_err-made-clause-many : goal.returns-in_err-made-clause-many
returns-in_err-made-clause-many g c =
    λ e. coded_too_large (tables_of c.args.labels.now) c.requires.tables (automaton_of c.args.states.now) c.requires.coded (c.in_err-made.ensures.large (ap (λ (f : AutomatonFault). Err f) (sym (passed_on _ _ c.from_residual.ensures.1 e))))

pub returns-clause-inside : goal.returns-clause-inside
returns-clause-inside g c =
    let t = tables_of c.args.labels.now in
    let reachable =
    subst (λ n. IsReachable same_level_state true (moves_of (coded_level_net t (automaton_of c.args.states.now))) start_copy n (automaton_of c.in_ok-made.made)) (ap (λ (s : Shared). s.sets) c.new-empty.ensures) c.in_ok-made.ensures.reachable in
    coded_ba t c.requires.tables (automaton_of c.args.states.now) c.requires.coded c.requires.inside (automaton_of c.in_ok-made.made) reachable c.in_ok-made.ensures.bounded

pub returns-clause-copies : goal.returns-clause-copies
returns-clause-copies g c =
    let t = tables_of c.args.labels.now in
    let reachable =
    subst (λ n. IsReachable same_level_state true (moves_of (coded_level_net t (automaton_of c.args.states.now))) start_copy n (automaton_of c.in_ok-made.made)) (ap (λ (s : Shared). s.sets) c.new-empty.ensures) c.in_ok-made.ensures.reachable in
    coded_leveled t c.requires.tables (automaton_of c.args.states.now) c.requires.coded c.requires.inside (automaton_of c.in_ok-made.made) reachable

pub returns-clause-coded : goal.returns-clause-coded
returns-clause-coded g c =
    let t = tables_of c.args.labels.now in
    let reachable =
    subst (λ n. IsReachable same_level_state true (moves_of (coded_level_net t (automaton_of c.args.states.now))) start_copy n (automaton_of c.in_ok-made.made)) (ap (λ (s : Shared). s.sets) c.new-empty.ensures) c.in_ok-made.ensures.reachable in
    levels_are_coded t c.requires.tables (automaton_of c.args.states.now) c.requires.coded (automaton_of c.in_ok-made.made) reachable

pub returns-clause-few : goal.returns-clause-few
returns-clause-few g c = coded_not_too_large (tables_of c.args.labels.now) c.requires.tables (automaton_of c.args.states.now) c.requires.coded c.in_ok-made.ensures.fits
