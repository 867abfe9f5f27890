use Rattle.std.proofs.Common.{false, length}
use Rattle.std.proofs.lemmas.Result.{IfOk-weaker}
use Rattle.ltl_spec.specs.Construction.Translation.{Options}
use Rattle.ltl_automaton.specs.LabelTables.{labelled_of}
use Rattle.ltl_reduce.proofs.BuchiLaws.{below_based, below_on, few_based, few_on, words_based, words_on}
use Rattle.ltl_reduce.proofs.StateBasedLaws.{state_based_gba, state_based_plain}
use Rattle.ltl_reduce.proofs.buchi.reduce_to_buchi.Goals as goal

abbrev plain : Options
plain = record { keep_implied = false; keep_equal = false }

pub merged_buchi-requires-clause-inside : goal.merged_buchi-requires-clause-inside
merged_buchi-requires-clause-inside g c =
    let (level, based) = (rw c.in-Some.is at c.in_ok-states.ensures.based) in
    state_based_gba c.in_ok-smaller.smaller level (labelled_of c.in-Some.states) based c.invariant.ensures.inside

pub merged_buchi-requires-clause-plain : goal.merged_buchi-requires-clause-plain
merged_buchi-requires-clause-plain g c =
    let (level, based) = (rw c.in-Some.is at c.in_ok-states.ensures.based) in
    state_based_plain c.in_ok-smaller.smaller level (labelled_of c.in-Some.states) based

pub returns-in-Some-clause-words : goal.returns-in-Some-clause-words
returns-in-Some-clause-words g c =
    let (level, based) = (rw c.in-Some.is at c.in_ok-states.ensures.based) in
    IfOk-weaker c.merged_buchi.result _ _ (λ B is. words_based c.args.automaton.now c.in_ok-smaller.smaller (labelled_of c.in-Some.states) B c.invariant.ensures level based is c.in_ok-smaller.ensures.reduced) c.merged_buchi.ensures.states

pub returns-in-Some-clause-few : goal.returns-in-Some-clause-few
returns-in-Some-clause-few g c =
    let (level, based) = (rw c.in-Some.is at c.in_ok-states.ensures.based) in
    IfOk-weaker c.merged_buchi.result _ _ (λ B is. few_based c.args.automaton.now c.in_ok-smaller.smaller (labelled_of c.in-Some.states) B c.invariant.ensures level based is c.in_ok-smaller.ensures.reduced) c.merged_buchi.ensures.states

pub returns-in-Some-clause-named : goal.returns-in-Some-clause-named
returns-in-Some-clause-named g c =
    let (level, based) = (rw c.in-Some.is at c.in_ok-states.ensures.based) in
    IfOk-weaker c.merged_buchi.result _ _ (λ B is. below_based c.args.automaton.now c.in_ok-smaller.smaller (labelled_of c.in-Some.states) B c.invariant.ensures level based is (length c.args.automaton.now.names) c.in_ok-smaller.ensures.named)
    c.merged_buchi.ensures.states

pub returns-clause-words : goal.returns-clause-words
returns-clause-words g c =
    IfOk-weaker c.buchi.result _ _ (λ B is. words_on plain c.args.automaton.now c.in_ok-smaller.smaller B c.invariant.ensures is c.in_ok-smaller.ensures.reduced) c.buchi.ensures.states

pub returns-clause-few : goal.returns-clause-few
returns-clause-few g c =
    IfOk-weaker c.buchi.result _ _ (λ B is. few_on plain c.args.automaton.now c.in_ok-smaller.smaller B c.invariant.ensures is c.in_ok-smaller.ensures.reduced) c.buchi.ensures.states

pub returns-clause-named : goal.returns-clause-named
returns-clause-named g c =
    IfOk-weaker c.buchi.result _ _ (λ B is. below_on plain c.args.automaton.now c.in_ok-smaller.smaller B c.invariant.ensures is (length c.args.automaton.now.names) c.in_ok-smaller.ensures.named) c.buchi.ensures.states

pub returns-clause-large : goal.returns-clause-large
returns-clause-large g c = λ e. (c.in_ok-smaller.smaller, c.in_ok-smaller.ensures.reduced, c.buchi.ensures.many e)
